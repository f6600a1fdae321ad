-- Document 01: the codes of scopes and modes.
use Rattle.std.specs.Prelude.{ℕ, Bool, ◌||◌, eqb}

-- "0 PUBLIC, 1 LOCAL, 2 ALL"
abbrev pub public_scope : ℕ
public_scope = 0

abbrev pub local_scope : ℕ
local_scope = 1

abbrev pub all_scope : ℕ
all_scope = 2

-- "encryption mode 0 DISABLE, 1 EXTERNAL, 2 ENCRYPT"
abbrev pub disable : ℕ
disable = 0

abbrev pub external : ℕ
external = 1

abbrev pub encrypt : ℕ
encrypt = 2

-- "decryption mode 0 DISABLE, 1 RAW, 2 DECRYPT, 3 MIXED"
abbrev pub raw : ℕ
raw = 1

abbrev pub decrypt : ℕ
decrypt = 2

abbrev pub mixed : ℕ
mixed = 3

-- "algorithm 1"
abbrev pub algorithm : ℕ
algorithm = 1

-- the highest value of CEEM, a field of two bits
abbrev pub ceem_most : ℕ
ceem_most = 3

-- an encryption mode is ENCRYPT
abbrev pub encrypts : ℕ → Bool
encrypts mode = eqb mode encrypt

-- a decryption mode is DECRYPT or MIXED
abbrev pub decrypts : ℕ → Bool
decrypts mode = eqb mode decrypt || eqb mode mixed

-- a key goes with the modes "where encryption is 2 or decryption is 2 or 3"
abbrev pub needs_key : ℕ → ℕ → Bool
needs_key encryption decryption = encrypts encryption || decrypts decryption
