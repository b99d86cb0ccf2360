-- The filter as a table of one entry a set, for the contracts of strip's private functions. An entry is a block number plus one, so
-- that block 0 is no empty entry. That it is the direct-mapped cache is a law (proofs/FilterLaws.antt). Assumes nothing.
use Rattle.std.specs.Prelude.{ℕ, suc, ◌^◌, ◌≡◌, Bool, List, eqb, ltb, length, get_or, set}
use Rattle.std.specs.List.{refill}
use Rattle.lists.specs.Runs.{after, left_on}
use Rattle.lists.specs.Tables.{zeroed}
use Rattle.cache.specs.Cache.{block_of, set_of}
use Rattle.strip.specs.declared.Filter.{Filter}
use Rattle.strip.specs.Strip.{kept_of}

-- where the entry of an address's set stands
abbrev pub place_of : ℕ → ℕ → ℕ → ℕ
place_of b s a = set_of s (block_of b a)

-- the last block of that set is the address's own
abbrev pub is_held : ℕ → ℕ → List ℕ → ℕ → Bool
is_held b s t a = eqb (get_or t (place_of b s a) 0) (suc (block_of b a))

-- the filter after a reference to the address
abbrev pub filter_step : ℕ → ℕ → List ℕ → ℕ → List ℕ
filter_step b s t a = set t (place_of b s a) (suc (block_of b a))

-- of a list, from a filter on: the addresses that are kept, and the filter after it
abbrev pub kept_from : ℕ → ℕ → List ℕ → List ℕ → List ℕ
kept_from b s t l = left_on (filter_step b s) (is_held b s) t l

abbrev pub filter_after : ℕ → ℕ → List ℕ → List ℕ → List ℕ
filter_after b s t l = after (filter_step b s) t l

-- the same lent filter, at the same blocks and sets; its entries are another thing
pub record Stays (f f' : Filter) : Type 0 where
  pub entries : f'.entries.ghost_name ≡ f.entries.ghost_name
  pub blocks : f'.b ≡ f.b
  pub sets : f'.s ≡ f.s

-- one reference: whether its block is held, and the filter after it
pub record Refers (a : ℕ) (f : Filter) (r : Bool) (f' : Filter) : Type 0 where
  pub stays : Stays f f'
  pub held : r ≡ is_held f.b.0 f.s f.entries.now a
  pub entries : f'.entries.now ≡ filter_step f.b.0 f.s f.entries.now a

-- a pass: how many are kept, and the filter after it; they stand at the front of the output, as far as that has room
pub record Keeps (l : List ℕ) (f : Filter) (out : List ℕ) (r : ℕ) (f' : Filter) (out' : List ℕ) : Type 0 where
  pub stays : Stays f f'
  pub count : r ≡ length (kept_from f.b.0 f.s f.entries.now l)
  pub entries : f'.entries.now ≡ filter_after f.b.0 f.s f.entries.now l
  pub output : out' ≡ refill (length out) out (kept_from f.b.0 f.s f.entries.now l)

-- the emptied filter, and whether an output of `len` is shorter than what is kept
pub record Empties (l : List ℕ) (len : ℕ) (f : Filter) (r : Bool) (f' : Filter) : Type 0 where
  pub stays : Stays f f'
  pub short : r ≡ ltb len (length (kept_of f.b.0 f.s l))
  pub entries : f'.entries.now ≡ zeroed (2 ^ f.s) f.entries.now
