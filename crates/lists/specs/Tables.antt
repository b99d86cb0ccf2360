-- Tables as lists of numbers: parts that are zeroed, written over or read, and places and rows of counts of which some go up by one.
-- Assumes nothing.
use Rattle.std.specs.Prelude.{ℕ, zero, suc, ◌+◌, ◌-◌, ◌*◌, ◌≤◌, ◌<◌, ◌≡◌, Bool, cond, ◌&&◌, List, [], ◌∷◌, ◌++◌, leb, ltb, length, take, drop, get_or, set, replicate}
use Rattle.lists.specs.Tests.{any_to}

-- the first n entries zero, or all where there are fewer; the others as they were
abbrev pub zeroed : ℕ → List ℕ → List ℕ
zeroed zero l = l
zeroed (suc n) [] = []
zeroed (suc n) (x ∷ l) = 0 ∷ zeroed n l

-- f 0, f 1, .., f (n - 1)
abbrev pub values_to : ℕ → (ℕ → ℕ) → List ℕ
values_to zero f = []
values_to (suc n) f = f 0 ∷ values_to n (λ i. f (suc i))

-- n entries from a place on
abbrev pub part : ℕ → ℕ → List ℕ → List ℕ
part base n l = take n (drop base l)

-- a list made at least n long, by zeros at its end
abbrev pub padded : ℕ → List ℕ → List ℕ
padded n l = l ++ replicate (n - length l) 0

-- the first p entries moved down one, over the entry at p, and x in front
abbrev pub front : ℕ → ℕ → List ℕ → List ℕ
front x p l = x ∷ (take p l ++ drop (p + 1) l)

-- a list written over a table, from a place on
unfoldable pub write_at : ℕ → List ℕ → List ℕ → List ℕ
write_at base p l = take base l ++ (p ++ drop (length p) (drop base l))

-- in a table of rows of `room` entries, the list `top k` written over the front of row k, for each k below n
unfoldable pub written_rows : ℕ → (ℕ → List ℕ) → ℕ → List ℕ → List ℕ
written_rows room top zero l = l
written_rows room top (suc k) l = write_at (k * room) (top k) (written_rows room top k l)

-- entry k is the length of `top k`, for each k below n
unfoldable pub set_lengths : (ℕ → List ℕ) → ℕ → List ℕ → List ℕ
set_lengths top zero l = l
set_lengths top (suc k) l = set (set_lengths top k l) k (length (top k))

-- one more at each of the n places from base on that is at most base + z, and the others as they were
pub record Bumped (base n z : ℕ) (old new : List ℕ) : Type 0 where
  pub more : (s : ℕ) → s < n → s ≤ z → get_or new (base + s) 0 ≡ get_or old (base + s) 0 + 1
  pub less : (s : ℕ) → s < n → z < s → get_or new (base + s) 0 ≡ get_or old (base + s) 0
  pub before : (i : ℕ) → i < base → get_or new i 0 ≡ get_or old i 0
  pub past : (i : ℕ) → base + n ≤ i → get_or new i 0 ≡ get_or old i 0

-- one more at a place, where the test holds
abbrev pub raise_if : Bool → ℕ → List ℕ → List ℕ
raise_if t i l = cond t (set l i (get_or l i 0 + 1)) l

-- In a table of rows of w counts: in each of the n rows from row `first` on, row first + s has one more at place d s, where that is below w
unfoldable pub raised_rows : ℕ → ℕ → (ℕ → ℕ) → ℕ → List ℕ → List ℕ
raised_rows w first d zero l = l
raised_rows w first d (suc s) l = raise_if (ltb (d s) w) ((first + s) * w + d s) (raised_rows w first d s l)

-- the same for groups of r rows: in each group k below n for which f holds
unfoldable pub raised_groups : ℕ → ℕ → (ℕ → Bool) → (ℕ → ℕ → ℕ) → ℕ → List ℕ → List ℕ
raised_groups w r f d zero l = l
raised_groups w r f d (suc k) l = cond (f k) (raised_rows w (k * r) (d k) r (raised_groups w r f d k l)) (raised_groups w r f d k l)

-- the count that row first + s would have raised is not below a ceiling
abbrev pub over_row : ℕ → ℕ → (ℕ → ℕ) → ℕ → List ℕ → ℕ → Bool
over_row w first d ceiling l s = ltb (d s) w && leb ceiling (get_or l ((first + s) * w + d s) 0)

-- so in some row of some group k below n for which f holds
abbrev pub over_groups : ℕ → ℕ → (ℕ → Bool) → (ℕ → ℕ → ℕ) → ℕ → ℕ → List ℕ → Bool
over_groups w r f d ceiling n l = any_to n (λ (k : ℕ). f k && any_to r (over_row w (k * r) (d k) ceiling l))
