-- What a call works on: the state and both lent tables; and one block size, cut out of them and put back (SCOPE, "The order's numbers").
-- A block size is named by k = b - bmin, from 0 to sizes - 1. Assumes nothing.
use Rattle.std.specs.Prelude.{ℕ, List}
use Rattle.lists.specs.Tables.{padded, written_rows, set_lengths}
use Rattle.order.specs.Limits.{sizes, span}
use Rattle.sizes.specs.Size.{Size}
use Rattle.taking.specs.Places.{used_of, stack_at, counts_at}
use Rattle.taking.specs.declared.Opened.{Opened}

pub record World : Type 0 where
  pub state : Opened
  pub stacks : List ℕ
  pub counts : List ℕ

abbrev pub world : Opened → List ℕ → List ℕ → World
world v st ct = record { state = v; stacks = st; counts = ct }

-- block size k
abbrev pub size_at : World → ℕ → Size
size_at w k = record {
  total = w.state.taken;
  stack = stack_at w.state w.stacks k;
  counts = counts_at w.state w.counts k;
}

-- each block size put back in its place: what its stack had used and has no more is zero, and every other entry is as it was
abbrev pub with_sizes : World → (ℕ → Size) → World
with_sizes w f = record {
  state = record {
    order = w.state.order;
    taken = (f 0).total;
    used = set_lengths (λ (k : ℕ). (f k).stack) (sizes w.state.order) w.state.used;
  };
  stacks = written_rows w.state.order.room (λ (k : ℕ). padded (used_of w.state k) (f k).stack) (sizes w.state.order) w.stacks;
  counts = written_rows (span w.state.order) (λ (k : ℕ). (f k).counts) (sizes w.state.order) w.counts;
}
