-- `put` meets its contract: a copied part is the text put. Assumes nothing.
use Rattle.std.proofs.Common.{rules, ◌+◌, ◌-◌, length}
use Rattle.printing.proofs.PutLaws.{put_whole}
use Rattle.printing.proofs.put.Goals as goal

pub returns : goal.returns
returns c = let a = c.args in put_whole a.text.now a.at a.out.now (a.at + length a.text.now - a.at) _ (search rules) (search rules) (search rules)
