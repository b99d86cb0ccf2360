-- The input's end, its refusal, and a turn more. Assumes nothing.
use Rattle.std.proofs.Common.{◌≡◌, true, rules, take, arith}
use lib.Seq.{length-take-le}
use Rattle.sweep.proofs.ProgressLaws.{from_none, from_more, read_less, read_refused, read_ended, refused_over, ended_over}
use Rattle.sweep.proofs.input.run.Goals as goal

pub loop-came-init : goal.loop-came-init
loop-came-init g c =
    from_none (g.R.Read.remaining c.args.input.now) c.args.stacks.now c.args.counts.now c.start-feeding.result c.start-feeding.ensures

pub returns-then-came : goal.returns-then-came
returns-then-came g c =
    let l = c.loop-came in
    let read = c.read_more in
    let told = c.in_ok-came.ensures in
    let k = c.feed in
    let slice = take c.in_ok-came.came.len read.new.chunk in
    let ended : c.in_ok-came.came.last ≡ true = search rules in
    let last = told.came.end ended in
    record {
      ran =
          read_ended c.args.stacks.now c.args.counts.now l.feeding l.stacks l.counts l.invariant.read slice
          k.new.self k.new.stacks k.new.counts k.ensures last c.ended.new.self c.ended.ensures;
      ran_over =
          ended_over (g.R.Read.remaining c.args.input.now) (g.R.Read.remaining l.input) c.args.stacks.now c.args.counts.now
          l.feeding l.stacks l.counts l.invariant slice k.new.self k.new.stacks k.new.counts k.ensures (g.R.Read.remaining read.new.input)
          (told.drawn.none_left ended) last c.ended.new.self c.ended.ensures;
    }

pub returns-then-feeding-ne0 : goal.returns-then-feeding-ne0
returns-then-feeding-ne0 g c =
    let l = c.loop-came in
    let read = c.read_more in
    let told = c.in_ok-came.ensures in
    let k = c.feed in
    let slice = take c.in_ok-came.came.len read.new.chunk in
    record {
      ran =
          read_refused c.args.stacks.now c.args.counts.now l.feeding l.stacks l.counts l.invariant.read slice
          k.new.self k.new.stacks k.new.counts k.ensures c.if-feeding-ne0.true;
      ran_over =
          refused_over (g.R.Read.remaining c.args.input.now) (g.R.Read.remaining l.input) c.args.stacks.now c.args.counts.now
          l.feeding l.stacks l.counts l.invariant slice k.new.self k.new.stacks k.new.counts k.ensures (g.R.Read.remaining read.new.input)
          (told.drawn.taken (search rules)) c.if-feeding-ne0.true;
    }

pub loop-came-smaller : goal.loop-came-smaller
loop-came-smaller g c =
    let l = c.loop-came in
    let told = c.in_ok-came.ensures in
    let k = c.feed in
    let len = c.in_ok-came.came.len in
    let chunk = c.read_more.new.chunk in
    let long = length-take-le len chunk told.came.fits in
    let some = told.came.some (search rules) in
    read_less c.args.stacks.now c.args.counts.now l.feeding l.stacks l.counts l.invariant.read (take len chunk)
    k.new.self k.new.stacks k.new.counts k.ensures c.if-feeding-ne0.false (omega (arith, long, some))

pub loop-came-preserved : goal.loop-came-preserved
loop-came-preserved g c =
    let l = c.loop-came in
    let read = c.read_more in
    let k = c.feed in
    from_more (g.R.Read.remaining c.args.input.now) (g.R.Read.remaining l.input) c.args.stacks.now c.args.counts.now
    l.feeding l.stacks l.counts l.invariant (take c.in_ok-came.came.len read.new.chunk) k.new.self k.new.stacks k.new.counts k.ensures
    (g.R.Read.remaining read.new.input) (c.in_ok-came.ensures.drawn.taken (search rules)) c.if-feeding-ne0.false
