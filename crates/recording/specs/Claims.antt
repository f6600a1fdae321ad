-- What the tables of files claim (proofs/Worked), and when a claim holds.
use Rattle.std.specs.Prelude.{ℕ, Bool, true, false, ◌&&◌, List, [], ◌∷◌, ◌++◌}
use Rattle.wire.specs.Numbers.{two}
use Rattle.drive.specs.Claims.{same_bool}
use Rattle.recording.specs.Files.{sound_file, file_of}

-- an event's 8 bytes
abbrev pub event : (kind nexus argument offset length : ℕ) → List ℕ
event kind nexus argument offset length = kind ∷ nexus ∷ (two argument ++ two offset ++ two length)

-- a header's 8 bytes, whatever they are, and what follows
abbrev pub under : (count first from total : ℕ) → List ℕ → List ℕ
under count first from total rest = two count ++ two first ++ two from ++ two total ++ rest

-- ---- files

-- a file, and whether replay takes it
pub record Tried : Type 0 where
  pub file : List ℕ
  pub taken : Bool

abbrev pub takes : List ℕ → Tried
takes file = record { file = file; taken = true }

abbrev pub refuses : List ℕ → Tried
refuses file = record { file = file; taken = false }

unfoldable pub agree : List Tried → Bool
agree [] = true
agree (t ∷ more) = same_bool (sound_file t.file) t.taken && agree more

-- ---- every field of every kind

-- of a kind: is it taken, and with a nexus that isn't zero, with argument 1, with a larger one, with a page
pub record Fielded : Type 0 where
  pub kind : ℕ
  pub known : Bool
  pub nexus : Bool
  pub one : Bool
  pub more : Bool
  pub page : Bool

abbrev pub fielded : ℕ → Bool → Bool → Bool → Bool → Bool → Fielded
fielded kind known nexus one more page = record { kind = kind; known = known; nexus = nexus; one = one; more = more; page = page }

-- a file of one event and two page bytes is taken, as is said
abbrev said : Bool → List ℕ → Bool
said taken bytes = same_bool (sound_file (file_of bytes (0xAA ∷ 0xBB ∷ []))) taken

-- the event with every field zero, and with each field in turn at the ends of what it can hold
abbrev every_field : Fielded → Bool
every_field f =
    let k = f.kind in
    said f.known (event k 0 0 0 0)
    && said f.nexus (event k 1 0 0 0) && said f.nexus (event k 255 0 0 0)
    && said f.one (event k 0 1 0 0)
    && said f.more (event k 0 2 0 0) && said f.more (event k 0 256 0 0) && said f.more (event k 0 65535 0 0)
    && said f.page (event k 0 0 1 0) && said f.page (event k 0 0 2 0) && said f.page (event k 0 0 0 1) && said f.page (event k 0 0 0 2)
    && said false (event k 0 0 3 0) && said false (event k 0 0 256 0) && said false (event k 0 0 65535 0)
    && said false (event k 0 0 0 3) && said false (event k 0 0 0 256) && said false (event k 0 0 0 65535) && said false (event k 0 0 1 2)

unfoldable pub fields_agree : List Fielded → Bool
fields_agree [] = true
fields_agree (f ∷ more) = every_field f && fields_agree more
