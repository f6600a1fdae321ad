use Rattle.sizes_16.specs.Sizes.{place_count, nexus_count}
use Rattle.wire.specs.Numbers.{eight}
use Rattle.record.specs.Bytes.{words_from, word_size}
use Rattle.wire.proofs.Parts.{Storing}
use Rattle.record_16.proofs.put_words.Given as goal

abbrev pub invariant-loop-place : goal.invariant-loop-place
invariant-loop-place l = Storing eight word_size place_count l.word-items (words_from nexus_count place_count) l.initial.buffer l.place l.buffer
