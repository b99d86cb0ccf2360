-- `feed` meets its contract: each turn takes the bytes of one line, as far as the slice has them. Assumes nothing.
use Rattle.std.proofs.Common.{◌-◌, rules, sym}
use Rattle.feeding.proofs.FeedLaws.{refused_stays, too_many, slice_ends, no_room, line_refused, line_done}
use Rattle.feeding.proofs.Feeding.feed.Goals as goal

pub returns-then-self-ne0 : goal.returns-then-self-ne0
returns-then-self-ne0 c =
    let a = c.args in sym (refused_stays a.self.now a.stacks.now a.counts.now a.bytes.now c.if-self-ne0.true)

pub returns-then-self-ge-LINES_MOST : goal.returns-then-self-ge-LINES_MOST
returns-then-self-ge-LINES_MOST c =
    too_many c.loop-rest.invariant (search rules) c.if-self-ge-LINES_MOST.true c.refuse_line.new.self c.refuse_line.ensures

pub returns-in_default : goal.returns-in_default
returns-in_default c =
    let l = c.loop-rest in
    let k = c.copy_line-n in
    slice_ends l.invariant (search rules) k.result (255 - l.self.len) k.new.line k.ensures (search rules) (search rules)
    c.in_default.ensures.cases

pub returns-then-byte-ne10 : goal.returns-then-byte-ne10
returns-then-byte-ne10 c =
    let l = c.loop-rest in
    let k = c.copy_line-n in
    let p = c.in-Some in
    let r = c.refuse_line-then-byte-ne10 in
    no_room l.invariant (search rules) k.result (255 - l.self.len) k.new.line k.ensures (search rules) (search rules)
    p.byte.now p.more.now p.ensures.cases.0 (search rules) r.new.self r.ensures

pub returns-then-self-ne0-2 : goal.returns-then-self-ne0-2
returns-then-self-ne0-2 c =
    let l = c.loop-rest in
    let k = c.copy_line-n in
    let p = c.in-Some in
    let r = c.end_line in
    line_refused l.invariant (search rules) k.result (255 - l.self.len) k.new.line k.ensures (search rules) (search rules)
    p.byte.now p.more.now p.ensures.cases.0 (search rules) r.new.self r.new.stacks r.new.counts r.ensures c.if-self-ne0-2.true

pub loop-rest-preserved : goal.loop-rest-preserved
loop-rest-preserved c =
    let l = c.loop-rest in
    let k = c.copy_line-n in
    let p = c.in-Some in
    let r = c.end_line in
    line_done l.invariant (search rules) k.result (255 - l.self.len) k.new.line k.ensures (search rules) (search rules)
    p.byte.now p.more.now p.ensures.cases.0 (search rules) r.new.self r.new.stacks r.new.counts r.ensures c.if-self-ne0-2.false
