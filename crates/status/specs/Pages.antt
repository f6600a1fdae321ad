-- Document 01, "Response pages": which pages there are, and those that never change.
use Rattle.std.specs.Prelude.{ℕ, Bool, false, ◌||◌, List, [], ◌∷◌, ◌++◌, eqb, length, replicate}
use Rattle.wire.specs.Numbers.{two}

-- the pages' codes
abbrev pub supported_in_code : ℕ
supported_in_code = 0x00

abbrev pub supported_out_code : ℕ
supported_out_code = 0x01

abbrev pub set_code : ℕ
set_code = 0x10

abbrev pub capabilities_code : ℕ
capabilities_code = 0x12

abbrev pub status_code : ℕ
status_code = 0x20

-- the pages of SECURITY PROTOCOL IN
abbrev pub pages_in : List ℕ
pages_in = supported_in_code ∷ supported_out_code ∷ capabilities_code ∷ status_code ∷ []

-- and OUT
abbrev pub pages_out : List ℕ
pages_out = set_code ∷ []

-- a code is one of a list's
abbrev pub is_one_of : List ℕ → ℕ → Bool
is_one_of [] code = false
is_one_of (c ∷ codes) code = eqb code c || is_one_of codes code

-- whether a page is supported; if not, answer 6
abbrev pub is_in_page : ℕ → Bool
is_in_page = is_one_of pages_in

abbrev pub is_out_page : ℕ → Bool
is_out_page = is_one_of pages_out

-- a page: its code, the count of the bytes after byte 3, and those bytes
abbrev pub page_of : ℕ → List ℕ → List ℕ
page_of code body = two code ++ two (length body) ++ body

-- codes one after another, two bytes each
abbrev pub listing : List ℕ → List ℕ
listing [] = []
listing (c ∷ codes) = two c ++ listing codes

-- "0000h: 00 00 00 08 00 00 00 01 00 12 00 20"
abbrev pub supported_in : List ℕ
supported_in = page_of supported_in_code (listing pages_in)

-- "0001h: 00 01 00 02 00 10"
abbrev pub supported_out : List ℕ
supported_out = page_of supported_out_code (listing pages_out)

-- "0012h (000, table 2): 00 12 00 0C 01 07 00 07, then 8 zeros"
abbrev pub capabilities : List ℕ
capabilities = page_of capabilities_code (0x01 ∷ 0x07 ∷ 0x00 ∷ 0x07 ∷ replicate 8 0)
