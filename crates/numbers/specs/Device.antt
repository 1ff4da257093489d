-- Device numbers (MUIDs): which are usable, which are taken, and the first that is free.
use Rattle.std.specs.Prelude.{◌≡◌, ℕ, zero, suc, ◌+◌, ◌%◌, ◌<◌, ◌≤◌, Bool, true, false, cond, not, ◌&&◌, ◌||◌, List, [], ◌∷◌, length, ◌==◌, nat_lt}
use Rattle.rising.specs.Order.{Key}
use Rattle.rising.specs.Lists.{Rising, entering, without}

-- a number is its own key
abbrev pub number : ℕ → Key
number n = n ∷ []

-- the numbers 0 to 268,435,199 are usable
abbrev pub Usable : ℕ → Type 0
Usable n = n < 268435200

-- the next 255 are reserved
abbrev pub Reserved : ℕ → Type 0
Reserved n = (268435200 ≤ n) × (n < 268435455)

-- and the last means every device
abbrev pub broadcast : ℕ
broadcast = 268435455

-- n is in the list
abbrev pub has : ℕ → List ℕ → Bool
has n [] = false
has n (x ∷ xs) = x == n || has n xs

-- every number of the list is usable
abbrev pub all_usable : List ℕ → Bool
all_usable [] = true
all_usable (x ∷ xs) = nat_lt x 268435200 && all_usable xs

-- what is known of the devices: the own number, and the others
pub record Known : Type 0 where
  pub own : ℕ
  pub listed : List ℕ

-- the own number is usable, and the others are rising, each once, all usable, the own never among them
pub record InOrder (own : ℕ) (listed : List ℕ) : Type 0 where
  pub up : Rising number listed
  pub usable : Usable own
  pub fit : all_usable listed ≡ true
  pub apart : has own listed ≡ false

-- n can be another device's number: it is usable, and not the own
abbrev pub other : ℕ → ℕ → Bool
other own n = nat_lt n 268435200 && not (n == own)

-- the list after a device is heard of: an unusable number, the own, a listed one or a full list leave it as it is
abbrev pub noted : ℕ → ℕ → List ℕ → List ℕ
noted own n xs = cond (other own n) (entering 32 number n xs) xs

-- the list after a device is gone: a number that is not listed leaves it as it is
abbrev pub forgotten : ℕ → List ℕ → List ℕ
forgotten n xs = without number n xs

-- one up, and from the last usable number to 0
abbrev pub next : ℕ → ℕ
next n = cond (n == 268435199) 0 (n + 1)

-- the first number from n on that is not in the list, where it is n or one of the next `tries`
unfoldable pub free_from : ℕ → List ℕ → ℕ → ℕ
free_from zero xs n = n
free_from (suc tries) xs n = cond (has n xs) (free_from tries xs (next n)) n

-- the first number from the draw's remainder on that is neither the own until then nor listed: so many are taken, so many tries do
abbrev pub renewed : ℕ → List ℕ → ℕ → ℕ
renewed own xs draw = free_from (length (own ∷ xs)) (own ∷ xs) (draw % 268435200)

-- r is the first number from n on, round from the last usable one to 0, that is not in the list: it is k steps on, and all that are passed over are taken
pub record First (xs : List ℕ) (n r : ℕ) : Type 0 where
  pub k : ℕ
  pub at : r ≡ (n + k) % 268435200
  pub free : has r xs ≡ false
  pub over : (j : ℕ) → j < k → has ((n + j) % 268435200) xs ≡ true
