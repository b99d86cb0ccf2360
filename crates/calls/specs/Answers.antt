-- What is answered after an opening, told by what was given alone: no state, and no table's contents (SCOPE, "Refusal numbers").
-- Assumes nothing.
use Rattle.std.specs.Prelude.{ℕ, ◌+◌, Bool, List, [], ◌∷◌, ◌++◌, eqb, ltb, length}
use Rattle.lists.specs.Sums.{total}
use Rattle.lists.specs.Tests.{first_of, any_to}
use Rattle.cache.specs.Cache.{Given, ref, flush, referred}
use Rattle.cache.specs.Stack.{seen_in}
use Rattle.units.specs.Refusals.{done, refs_reached, stack_full}
use Rattle.order.specs.declared.Order.{Order}
use Rattle.order.specs.Limits.{sizes}

-- the distinct blocks of 2^b bytes seen since the last flush, once g comes after `past`, are more than room
abbrev pub is_full_after : Order → List Given → Given → ℕ → Bool
is_full_after o past g b = ltb o.room (length (seen_in b (past ++ (g ∷ []))))

-- After `past`, a reference: 5 where the references taken equal refs, 6 where at some block size the blocks seen would be more than room.
-- A flush is always done
abbrev pub answer_after : Order → List Given → Given → ℕ
answer_after o past (ref a) =
    first_of
    ((eqb (total referred past) o.refs, refs_reached)
    ∷ (any_to (sizes o) (λ (k : ℕ). is_full_after o past (ref a) (o.bmin.0 + k)), stack_full)
    ∷ [])
answer_after o past flush = done
