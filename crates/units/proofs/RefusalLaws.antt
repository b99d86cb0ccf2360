-- What every refusal's number has in common. Assumes nothing.
use mathlib.Core.Path.{◌≡◌}
use native.Mathlib.Omega.{arith}
use Rattle.units.specs.Refusals.{number_of}
use Rattle.units.specs.declared.refusal.Refusal.{Refusal}
use Rattle.units.specs.declared.refusal.Refusal.TheVariants.{OutsideLimits, ShortStacks, ShortCounts, ForeignState, RefsReached, StackFull}
use Rattle.units.specs.declared.refusal.Refusal.TheVariants.{CountOver, NotInOrder, NoReferences, BadOrderLine, ShortFilter, ShortOutput}
use Rattle.units.specs.declared.refusal.Refusal.TheVariants.{BadLabel, BadGap, BadAddress, TooLong, TooManyLines}

-- no refusal has the number 0
pub refused_not_done : (refusal : Refusal) → number_of refusal ≡ 0 → ⊥
refused_not_done OutsideLimits = λ e. omega arith
refused_not_done ShortStacks = λ e. omega arith
refused_not_done ShortCounts = λ e. omega arith
refused_not_done ForeignState = λ e. omega arith
refused_not_done RefsReached = λ e. omega arith
refused_not_done StackFull = λ e. omega arith
refused_not_done CountOver = λ e. omega arith
refused_not_done NotInOrder = λ e. omega arith
refused_not_done NoReferences = λ e. omega arith
refused_not_done BadOrderLine = λ e. omega arith
refused_not_done ShortFilter = λ e. omega arith
refused_not_done ShortOutput = λ e. omega arith
refused_not_done BadLabel = λ e. omega arith
refused_not_done BadGap = λ e. omega arith
refused_not_done BadAddress = λ e. omega arith
refused_not_done TooLong = λ e. omega arith
refused_not_done TooManyLines = λ e. omega arith
