-- The check sum, from the words of the Modbus over Serial Line specification, section 6.2.2 ("CRC Generation"), which 01,
-- "The three chips", repeats. Its sample routine hands the two bytes back swapped (0x4112 for 02 07); the number here is
-- 01's (0x1241). Assumes nothing.
use Rattle.std.specs.Prelude.{List, [], ◌∷◌, ℕ, zero, suc, ◌/◌, ◌%◌, eqb}
use Rattle.std.specs.Int.Bits.{bit_xor}
use Rattle.lists.specs.Words.{pick}

-- "shift right by one and, if a one fell out, exclusive-or 0xA001"
unfoldable pub bit_step : ℕ → ℕ
bit_step s = pick (eqb (s % 2) 1) (bit_xor (s / 2) 0xA001) (s / 2)

-- f, n times
abbrev pub times : ℕ → (ℕ → ℕ) → ℕ → ℕ
times zero f x = x
times (suc n) f x = times n f (f x)

-- "for each byte, exclusive-or it into the low half, then eight times .."
unfoldable pub byte_step : ℕ → ℕ → ℕ
byte_step s b = times 8 bit_step (bit_xor s b)

-- the sum reached from s over some more bytes
unfoldable pub crc_from : ℕ → List ℕ → ℕ
crc_from s [] = s
crc_from s (b ∷ bs) = crc_from (byte_step s b) bs

-- "start 0xFFFF"
abbrev pub crc16 : List ℕ → ℕ
crc16 bs = crc_from 0xFFFF bs

-- "a sector's ticket is the exclusive-or of the two bytes of its sum"
abbrev pub ticket_of : ℕ → ℕ
ticket_of sum = bit_xor (sum % 256) (sum / 256)
