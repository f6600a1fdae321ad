-- A set, a nexus and key-associated data, written and read: the same, whatever bytes follow.
-- Assumes nothing.
use Prim.Native.Nat.{ℕ}
use mathlib.Core.Path.{◌≡◌, refl, sym, ap, ◌∙◌}
use mathlib.Core.Bool.{Bool}
use mathlib.Core.List.{List, ◌∷◌, ◌++◌, append_assoc}
use lib.ListN.{drop}
use lib.Seq.{get_or_at, drop-drop, drop_at}
use Rattle.wire.proofs.Numbers.{number-four}
use Rattle.kad.specs.Kad.{u_most, a_most, Sized}
use Rattle.kad.specs.declared.Kads.{Kads}
use Rattle.parameters.specs.Fields.{key_size, supplemental_size}
use Rattle.parameters.specs.declared.Fields.{Fields}
use Rattle.device.specs.declared.Set.{Set}
use Rattle.device.specs.declared.Nexus.{Nexus}
use Rattle.record.specs.Bytes.{kads_bytes, set_head, set_bytes, nexus_bytes}
use Rattle.record.specs.Reading.{kads_read, fields_read, set_read, nexus_read}
use Rattle.record.specs.Good.{SetFits, NexusFits}
use Rattle.wire.proofs.Bytes.{padded-at, drop_past, flag-back}

-- ---- key-associated data

-- the same fields make the same data
kads-made : {n m : ℕ} {u u' a a' : List ℕ} → u ≡ u' → a ≡ a' → {m' : ℕ} → m ≡ m'
    → ◌≡◌ {A = Kads} (record { ukad = record { length = n; bytes = u }; akad = record { length = m; bytes = a } }) (record { ukad = record { length = n; bytes = u' }; akad = record { length = m'; bytes = a' } })
kads-made p q r = rw (p, q, r) refl

pub kads-back : (k : Kads) → Sized k → (rest : List ℕ) → kads_read (kads_bytes k ++ rest) ≡ k
unfolding kads_bytes kads_read
kads-back k s rest =
    let u = k.ukad.bytes in
    let a = k.akad.bytes in
    let n = k.akad.length in
    let is : kads_bytes k ++ rest ≡ k.ukad.length ∷ (u ++ n ∷ (a ++ rest)) = ap (λ (l : List ℕ). k.ukad.length ∷ l) (append_assoc u (n ∷ a) rest) in
    ap kads_read is
    ∙ kads-made (padded-at u_most u (n ∷ (a ++ rest)) s.0) (rw (drop_past u_most u n (a ++ rest) s.0) (padded-at a_most a rest s.1)) (get_or_at u n (a ++ rest) 0 u_most s.0)

-- ---- a set

-- its bytes, taken apart
apart : (s : Set) (rest : List ℕ) → set_bytes s ++ rest ≡ set_head s ++ (s.fields.key ++ s.supplemental.count ∷ (s.supplemental.keys ++ (kads_bytes s.fields.kads ++ rest)))
unfolding set_bytes
apart s rest =
    let kads = kads_bytes s.fields.kads in
    let keys = s.supplemental.keys ++ kads in
    append_assoc (set_head s) (s.fields.key ++ s.supplemental.count ∷ keys) rest
    ∙ ap (λ (l : List ℕ). set_head s ++ l) (append_assoc s.fields.key (s.supplemental.count ∷ keys) rest
    ∙ ap (λ (l : List ℕ). s.fields.key ++ s.supplemental.count ∷ l) (append_assoc s.supplemental.keys kads rest))

-- the same fields make the same fields of a set
fields_made : {e d i c : ℕ} {r r' o o' p p' l l' : Bool} {k k' : List ℕ} {x x' : Kads} → r ≡ r' → o ≡ o' → p ≡ p' → l ≡ l' → k ≡ k' → x ≡ x'
    → ◌≡◌ {A = Fields}
    (record { encryption = e; decryption = d; index = i; ceem = c; rdmd = r; ckod = o; ckorp = p; ckorl = l; key = k; kads = x })
    (record { encryption = e; decryption = d; index = i; ceem = c; rdmd = r'; ckod = o'; ckorp = p'; ckorl = l'; key = k'; kads = x' })
fields_made f g h i j k = rw (f, g, h, i, j, k) refl

-- and the same set
set-made : {o s n n' : ℕ} {f f' : Fields} {c c' : ℕ} {k k' : List ℕ} → n ≡ n' → f ≡ f' → c ≡ c' → k ≡ k'
    → ◌≡◌ {A = Set} (record { owner = o; scope = s; number = n; fields = f; supplemental = record { count = c; keys = k } }) (record { owner = o; scope = s; number = n'; fields = f'; supplemental = record { count = c'; keys = k' } })
set-made f g h i = rw (f, g, h, i) refl

pub set_back : (s : Set) → SetFits s → (rest : List ℕ) → set_read (set_bytes s ++ rest) ≡ s
unfolding set_read fields_read
set_back s f rest =
    let key = s.fields.key in
    let count = s.supplemental.count in
    let keys = s.supplemental.keys in
    let last = kads_bytes s.fields.kads ++ rest in
    let whole = set_head s ++ (key ++ count ∷ (keys ++ last)) in
    let past : drop 33 (key ++ count ∷ (keys ++ last)) ≡ keys ++ last = drop_past key_size key count (keys ++ last) f.key in
    let kads : drop 161 (key ++ count ∷ (keys ++ last)) ≡ last = sym (drop-drop 128 33 (key ++ count ∷ (keys ++ last))) ∙ ap (drop 128) past ∙ drop_at keys last supplemental_size f.keys in
    let same : fields_read whole ≡ s.fields =
    fields_made (flag-back s.fields.rdmd) (flag-back s.fields.ckod) (flag-back s.fields.ckorp) (flag-back s.fields.ckorl) (padded-at key_size key (count ∷ (keys ++ last)) f.key)
    (ap kads_read kads ∙ kads-back s.fields.kads f.kads rest) in
    ap set_read (apart s rest)
    ∙ set-made (number-four s.number f.number) same (get_or_at key count (keys ++ last) 0 key_size f.key) (rw past (padded-at supplemental_size keys last f.keys))

-- ---- a nexus

nexus-made : {s n n' m m' : ℕ} {l l' r r' a a' v v' : Bool} → l ≡ l' → n ≡ n' → m ≡ m' → r ≡ r' → a ≡ a' → v ≡ v'
    → ◌≡◌ {A = Nexus} (record { scope = s; lock = l; saved = n; last_local = m; marks = record { registered = r; another = a; vendor = v } })
    (record { scope = s; lock = l'; saved = n'; last_local = m'; marks = record { registered = r'; another = a'; vendor = v' } })
nexus-made f g h i j k = rw (f, g, h, i, j, k) refl

pub nexus-back : (x : Nexus) → NexusFits x → (rest : List ℕ) → nexus_read (nexus_bytes x ++ rest) ≡ x
unfolding nexus_bytes nexus_read
nexus-back x f rest =
    nexus-made (flag-back x.lock) (number-four x.saved f.saved) (number-four x.last_local f.last_local) (flag-back x.marks.registered) (flag-back x.marks.another) (flag-back x.marks.vendor)
