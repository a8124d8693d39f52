-- Which number a field writes.
use Rattle.std.specs.Prelude.{ℕ, ◌+◌, ◌-◌, ◌*◌, Bool, true, false, cond, ◌&&◌, List, [], ◌∷◌, length, ℤ, pos, neg_ℤ, Some, None, Option, ◌==◌, nat_le}

-- the number that digits write after those of n; none if a byte is no digit
abbrev pub value_from : ℕ → List ℕ → Option ℕ
value_from n [] = Some n
value_from n (x ∷ xs) = cond (nat_le 48 x && nat_le x 57) (value_from (n * 10 + (x - 48)) xs) None

-- 1 to 10 decimal digits; leading zeros are lawful
abbrev pub number_of : List ℕ → Option ℕ
number_of xs = cond (nat_le 1 (length xs) && nat_le (length xs) 10) (value_from 0 xs) None

-- a number that is kept only from low to high
abbrev pub within : ℕ → ℕ → Option ℕ → Option ℕ
within low high None = None
within low high (Some n) = cond (nat_le low n && nat_le n high) (Some n) None

-- a number as a coordinate: of either sign, and none beyond a hit's bounds
abbrev pub signed_by : Bool → Option ℕ → Option ℤ
signed_by minus None = None
signed_by minus (Some n) = cond (nat_le n 2000000) (Some (cond minus (neg_ℤ (pos n)) (pos n))) None

-- a minus may stand before a coordinate's digits and does not count among them
abbrev pub coordinate_of : List ℕ → Option ℤ
coordinate_of [] = None
coordinate_of (x ∷ xs) = cond (x == 45) (signed_by true (number_of xs)) (signed_by false (number_of (x ∷ xs)))
