-- `BlockNo::wider` meets its contract: a checked shift gives the block. Assumes nothing.
use mathlib.Core.Path.{◌∙◌}
use native.Mathlib.Omega.{arith}
use Rattle.units.proofs.ShiftLaws.{shifted}
use Rattle.units.proofs.BlockNo.wider.Goals as goal

pub returns : goal.returns
returns c = c.unwrap_or.ensures ∙ shifted c.checked_shr.result c.args.k c.args.self.0 (omega arith) c.checked_shr.ensures
