-- THE DEMANDS of docs/SCOPE.md, each as a statement about the functions that ship: whatever is within a function's contract does this. Nothing is
-- proved here: each line below a statement names its proof. Assumes nothing.
use Prim.Native.Nat.{ℕ, suc, ◌+◌, ◌-◌, ◌*◌, ◌^◌, ◌≤◌, ◌<◌}
use mathlib.Core.Path.{◌≡◌, ap, ◌∙◌}
use mathlib.Core.Bool.{true, false, cond, not}
use mathlib.Core.List.{List, [], ◌∷◌, ◌++◌, map}
use lib.Dec.{eqb, ltb}
use lib.ListN.{length, take, drop, get_or, replicate}
use Rattle.lists.specs.Members.{mem, Distinct}
use Rattle.lists.specs.Runs.{Each, without}
use Rattle.lists.specs.Sums.{total}
use Rattle.lists.specs.Tables.{zeroed}
use Rattle.lists.specs.Tests.{first_of, any_to, all_le}
use Rattle.cache.specs.Cache.{Given, ref, flush, referred, flushed, events_of, touches_of, simulate, is_hit, misses_over}
use Rattle.cache.specs.Stack.{is_seen, seen_in}
use Rattle.cache.proofs.InclusionLaws.{HitToo, inclusion}
use Rattle.cache.proofs.Worked.{trace, grid}
use Rattle.order.specs.declared.Order.{Order}
use Rattle.order.specs.Limits.{within, zero_order, sizes, stack_need, count_need}
use Rattle.sizes.specs.Size.{is_over}
use Rattle.taking.specs.declared.Opened.{Opened}
use Rattle.taking.specs.Places.{used_of, stack_at, block_at, full_at}
use Rattle.taking.specs.World.{World, world}
use Rattle.taking.specs.Opening.{Opens, open_answer, unopened}
use Rattle.taking.specs.Taking.{Takes, is_foreign, some_size}
use Rattle.taking.specs.Questions.{Counted, has, hits_of, misses_of}
use Rattle.taking.specs.Ratios.{Rated, ratios_of, ratios_at, no_ratios}
use Rattle.taking.proofs.TakenLaws.{take_answer_in_words}
use Rattle.calls.specs.Calls.{Call, Calls}
use Rattle.calls.proofs.CallLaws.{call_refused, calls_there}
use Rattle.strip.specs.Joined.{joined_runs, StripsTo}
use Rattle.strip.specs.Strip.{Stripped, kept_of, strip_limits, Strips}
use Rattle.strip.proofs.JoinedLaws.{joined_all, calls_kept, whole_as_before, whole_dropped, whole_misses}
use Rattle.strip.proofs.StripClaims.{strip_refused, strip_short, strip_untouched, left_is_kept, kept_as_before, dropped_hit, misses_same}
use Rattle.units.specs.Refusals.{has_column}
use Rattle.lines.specs.Column.{FirstWrong}
use Rattle.lines.specs.Said.{trace_said}
use Rattle.lines.specs.TraceLine.{TraceLine, bad_at, trace_line_of, is_read, is_good}
use Rattle.lines.proofs.ColumnLaws.{column_unique}
use Rattle.lines.proofs.StageLaws.{long_at_256, taken_if_good, column_right, number_right}
use Rattle.reading.specs.declared.Tally.{Tally}
use Rattle.reading.specs.Reading.{Desk, desk, with_reading, at_line, Outcome, stays, start}
use Rattle.reading.specs.Step.{is_too_many, long_line, Steps}
use Rattle.reading.specs.Tables.{Allotted}
use Rattle.reading.proofs.TableLaws.{opening_in_program}
use Rattle.runs.specs.Input.{Runs, header_of, trace_of, order_in, given_of}
use Rattle.runs.specs.Endings.{ending_of, input_ending}
use Rattle.runs.proofs.BadLineLaws.{refused_so}
use Rattle.runs.proofs.EndingLaws.{run_listed}
use Rattle.runs.proofs.NumberLaws.{refused_line}
use Rattle.runs.proofs.ProgramLaws.{program_ends, program_misses, program_refs, program_tally, program_lines}
use Rattle.feeding.specs.declared.Feeding.{Feeding}
use Rattle.feeding.specs.Calls.{Calls as Feeds}
use Rattle.feeding.specs.Feeding.{by_lines, held_by, start as noByte}
use Rattle.feeding.specs.Lines.{lf, lines_of, joined}
use Rattle.feeding.specs.Machine.{Held, held, fed, finished}
use Rattle.feeding.proofs.RunLaws.{bytes_runs, feeds_there}
use Rattle.printing.specs.Grid.{grid_of, first_cache, Walks}
use Rattle.printing.specs.Printed.{output_of}
use Rattle.printing.specs.Output.{printed_for}
use Rattle.printing.proofs.WalkLaws.{walk_is_grid}
use Rattle.claims.proofs.ByteOutcomes as bytes
use Rattle.claims.proofs.CallOutcomes as outcomes

-- ==== Demand 1: a refusal comes exactly in the case listed for it, returns its number, and leaves each lent table as listed

-- ---- opening the order o over a stack table st and a count table ct

module _ (o : Order) (st ct : List ℕ) (n : ℕ) (w' : World) (opens : Opens o (unopened st ct) n w') where
  -- the first of 1, 2, 3 that applies, else 0
  pub demand_1_opening : n ≡ first_of ((not (within o), 1) ∷ (ltb (length st) (stack_need o), 2) ∷ (ltb (length ct) (count_need o), 3) ∷ [])
  demand_1_opening = opens.answer

  -- refused: a state of zeros, and both tables as they were
  pub demand_1_opening_refused : (n ≡ 0 → ⊥) → w' ≡ world (record { order = zero_order; taken = 0; used = replicate 8 0 }) st ct
  demand_1_opening_refused = outcomes.opening_refused opens

  -- done: nothing taken, every used length 0, and the needed part of both tables zero
  pub opening_done : n ≡ 0
      → w' ≡ world (record { order = o; taken = 0; used = replicate 8 0 }) (zeroed (stack_need o) st) (zeroed (count_need o) ct)
  opening_done = outcomes.opened_zeroed opens

-- ---- taking a reference to the address a in any world w, a foreign state or foreign tables too

module _ (w : World) (a : ℕ) (n : ℕ) (w' : World) (takes : Takes w (ref a) n w') where
  -- the first of 1 to 7 that applies, else 0: with 6 at some block size the block is new and its stack is full; with 7 at some block size a count to
  -- be raised is not below the references taken
  pub demand_1_taking : n
      ≡ first_of
      ((not (within w.state.order), 1)
      ∷ (ltb (length w.stacks) (stack_need w.state.order), 2)
      ∷ (ltb (length w.counts) (count_need w.state.order), 3)
      ∷ (is_foreign w.state, 4)
      ∷ (eqb w.state.taken w.state.order.refs, 5)
      ∷ (any_to (sizes w.state.order) (full_at w.state w.stacks (block_at w.state a)), 6)
      ∷ (some_size is_over w (ref a), 7)
      ∷ [])
  demand_1_taking = takes.answer ∙ take_answer_in_words w a

  -- refused: nothing changes
  pub demand_1_taking_refused : (n ≡ 0 → ⊥) → w' ≡ w
  demand_1_taking_refused = call_refused takes

  -- refused or done, entries past what the order needs are untouched
  pub taking_spares_the_rest : (drop (stack_need w.state.order) w'.stacks ≡ drop (stack_need w.state.order) w.stacks)
      × (drop (count_need w.state.order) w'.counts ≡ drop (count_need w.state.order) w.counts)
  taking_spares_the_rest = outcomes.taking_spares takes

-- ---- flushing in any world w; the counts are not lent

module _ (w : World) (n : ℕ) (w' : World) (flushes : Takes w flush n w') where
  -- the first of 1, 2, 4 that applies, else 0
  pub demand_1_flush : n
      ≡ first_of
      ((not (within w.state.order), 1) ∷ (ltb (length w.stacks) (stack_need w.state.order), 2) ∷ (is_foreign w.state, 4) ∷ [])
  demand_1_flush = flushes.answer

  -- refused: nothing changes
  pub demand_1_flush_refused : (n ≡ 0 → ⊥) → w' ≡ w
  demand_1_flush_refused = call_refused flushes

  -- refused or done, entries past what the order needs are untouched
  pub flush_spares_the_rest : drop (stack_need w.state.order) w'.stacks ≡ drop (stack_need w.state.order) w.stacks
  flush_spares_the_rest = (outcomes.taking_spares flushes).0

module _ (w w' : World) (flushes : Takes w flush 0 w') where
  -- done: at each block size of the order the used length is 0, and what was used is zero
  pub flush_empties_the_stacks : (k : ℕ) → k < sizes w.state.order → used_of w'.state k ≡ 0
  flush_empties_the_stacks = outcomes.flush_empties flushes

  pub flush_zeroes_what_was_used : (k j : ℕ) → k < sizes w.state.order → j < used_of w.state k
      → get_or w'.stacks (k * w.state.order.room + j) 0 ≡ 0
  flush_zeroes_what_was_used = outcomes.flush_zeroes flushes

  -- the order, the references taken and the counts stay; so do entries beyond the used lengths, and used lengths of sizes that the order lacks
  pub flush_keeps_counts : (w'.state.order ≡ w.state.order) × (w'.state.taken ≡ w.state.taken) × (w'.counts ≡ w.counts)
  flush_keeps_counts = outcomes.flush_keeps flushes

  pub flush_spares_unused : (k j : ℕ) → k < sizes w.state.order → used_of w.state k ≤ j → j < w.state.order.room
      → get_or w'.stacks (k * w.state.order.room + j) 0 ≡ get_or w.stacks (k * w.state.order.room + j) 0
  flush_spares_unused = outcomes.flush_spares_entries flushes

  pub flush_spares_other_sizes : (k : ℕ) → sizes w.state.order ≤ k → used_of w'.state k ≡ used_of w.state k
  flush_spares_other_sizes = outcomes.flush_spares_lengths flushes

-- ---- asking any state v and count table ct for the cache (b, s, w); the table is lent to be read only

module _ (v : Opened) (ct : List ℕ) (b s w : ℕ) (q : Counted) (asks : q ≡ misses_of v ct b s w) where
  -- the first of 1, 3, 4, 8, 7 that applies, else 0
  pub demand_1_misses : q.answer
      ≡ first_of
      ((not (within v.order), 1)
      ∷ (ltb (length ct) (count_need v.order), 3)
      ∷ (is_foreign v, 4)
      ∷ (not (has v.order b s w), 8)
      ∷ (ltb v.taken (hits_of v ct b s w), 7)
      ∷ [])
  demand_1_misses = ap (λ (q : Counted). q.answer) asks

  -- refused: zero beside the number; always: the state as it was handed in
  pub demand_1_misses_refused : (q.answer ≡ 0 → ⊥) → q.misses ≡ 0
  demand_1_misses_refused = outcomes.no_misses v ct b s w q asks

  pub misses_state : q.state ≡ v
  misses_state = ap (λ (q : Counted). q.state) asks

module _ (v : Opened) (ct : List ℕ) (b s w : ℕ) (q : Rated) (asks : q ≡ ratios_of v ct b s w) where
  -- as misses, then 9 where no references are taken
  pub demand_1_ratios : q.answer
      ≡ first_of ((not (eqb (misses_of v ct b s w).answer 0), (misses_of v ct b s w).answer) ∷ (eqb v.taken 0, 9) ∷ [])
  demand_1_ratios = ap (λ (q : Rated). q.answer) asks

  pub demand_1_ratios_refused : (q.answer ≡ 0 → ⊥) → q.ratios ≡ no_ratios
  demand_1_ratios_refused = outcomes.no_ratios_lem v ct b s w q asks

  pub ratios_state : q.state ≡ v
  ratios_state = ap (λ (q : Rated). q.state) asks

-- ---- stripping a list l of addresses

module _ (l : List ℕ) (b s : ℕ) (filter out : List ℕ) (r : Stripped) (filter' out' : List ℕ) (strip : Strips l b s filter out r filter' out') where
  -- the first of 1, 12, 13 that applies, else 0
  pub demand_1_strip : r.answer
      ≡ first_of ((not (all_le (strip_limits b s)), 1) ∷ (ltb (length filter) (2 ^ s), 12) ∷ (ltb (length out) (length (kept_of b s l)), 13) ∷ [])
  demand_1_strip = strip.answer

  -- refused: zero beside the number, and the output as it was; 13 leaves the first 2^s filter entries zero, and the others leave the filter
  pub demand_1_strip_refused : (r.answer ≡ 0 → ⊥) → (r.kept ≡ 0) × (out' ≡ out)
  demand_1_strip_refused = strip_refused strip

  pub demand_1_strip_short : r.answer ≡ 13 → filter' ≡ zeroed (2 ^ s) filter
  demand_1_strip_short = strip_short strip

  pub demand_1_strip_untouched : (r.answer ≡ 0 → ⊥) → (r.answer ≡ 13 → ⊥) → filter' ≡ filter
  demand_1_strip_untouched = strip_untouched strip

-- ---- one line of a trace, read as r by `trace_line`

module _ (line : List ℕ) (r : TraceLine) (reads : trace_said r ≡ trace_said (trace_line_of line)) where
  -- longer than 255 bytes: refused with 17 at column 256, whatever the bytes are
  pub length_comes_first : 255 < length line → r ≡ bad_at 17 256
  length_comes_first = long_at_256 line r reads

  module _ (short : length line ≤ 255) where
    -- else it is refused exactly where it is no good line
    pub refused_if_bad : is_read r ≡ is_good line
    refused_if_bad = taken_if_good line r reads short

    -- at column c such that, the length apart, the bytes before it can be continued to a good line, and with the byte at it, or with the end
    -- there, they cannot
    pub column_is_right : (n c : ℕ) → r ≡ bad_at n c → FirstWrong is_good line c
    column_is_right n c = column_right line r reads short (record { number = n; column = c })

    -- and the number goes by the part: the label is column 1, the gap after it begins at 2, and the address comes later
    pub number_is_right : (n c : ℕ) → r ≡ bad_at n c → n ≡ cond (eqb c 1) 14 (cond (eqb c 2) 15 16)
    number_is_right n c = number_right line r reads short (record { number = n; column = c })

-- there is no other such column
pub column_is_one : (line : List ℕ) (c c' : ℕ) → FirstWrong is_good line c → FirstWrong is_good line c' → c ≡ c'
column_is_one = column_unique is_good

-- ---- one line of the program's input, in any state and over any tables

-- refused: nothing changes but the number of the line and the column
pub demand_1_line_refused : (d : Desk) (line : List ℕ) (n : ℕ) (d' : Desk) → Steps d line n d' → (n ≡ 0 → ⊥)
    → d' ≡ with_reading (at_line d'.reading.lines d'.reading.column d.reading) d
demand_1_line_refused = refused_line

-- ---- the program, over every list of lines and any tables lent

module _ (st ct : List ℕ) (lines : List (List ℕ)) (o : Outcome) (run : Runs (desk start st ct) lines o) where
  -- a run within the contracts of `step`, `long_line` and `ended` ends with the answer, and at the line and the column, that the lines alone call
  -- for (crates/runs/specs/Endings.antt)
  pub demand_1_program : ending_of o ≡ input_ending (unopened st ct) [] lines
  demand_1_program = program_ends st ct lines o run

  -- and, over the program's own tables of 8,192 and 1,920 entries, the answer is one of the listed ones
  pub demand_1_listed : Allotted (unopened st ct) → mem o.answer (0 ∷ 1 ∷ 2 ∷ 5 ∷ 6 ∷ 10 ∷ 14 ∷ 15 ∷ 16 ∷ 17 ∷ 26 ∷ []) ≡ true
  demand_1_listed = run_listed st ct lines o run

  -- where it is 14 to 17, the line that is told reads so, with that number at the column that is told
  pub demand_1_bad_line : has_column o.answer ≡ true
      → trace_line_of (get_or lines (o.left.reading.lines - 1) []) ≡ bad_at o.answer o.left.reading.column
  demand_1_bad_line = refused_so st ct lines o run

-- over these tables the begin line is refused with 2 exactly where block sizes times room exceed 8,192, after 1, and never with 3
pub program_tables : (o : Order) (st ct : List ℕ) → Allotted (unopened st ct)
    → open_answer o (unopened st ct) ≡ first_of ((not (within o), 1) ∷ (ltb 8192 (sizes o * o.room), 2) ∷ [])
program_tables o st ct = opening_in_program o (unopened st ct)

-- ==== Demand 2: from an opening, with each call handed the state that the one before handed back and the tables untouched in between, the misses
-- given for each cache in range equal those of simulating that one cache, empty at the start and at each flush, over the references taken

module _ (o : Order) (st ct : List ℕ) (w₁ : World) (opens : Opens o (unopened st ct) 0 w₁)
    (cs : List Call) (l : List Given) (w : World) (calls : Calls w₁ cs l w) where
  pub demand_2 : (b s n : ℕ) → has o b s n ≡ true → (q : Counted) → q ≡ misses_of w.state w.counts b s n
      → (q.answer ≡ 0) × (q.misses ≡ misses_over b s n l)
  demand_2 = outcomes.misses_promised o (unopened st ct) w₁ opens cs l w calls

  -- and the ratios are those of these misses and the references taken
  pub demand_2_ratios : (b s n : ℕ) → has o b s n ≡ true → (total referred l ≡ 0 → ⊥) → (q : Rated) → q ≡ ratios_of w.state w.counts b s n
      → (q.answer ≡ 0) × (q.ratios ≡ ratios_at (misses_over b s n l) (total referred l) b)
  demand_2_ratios = outcomes.ratios_promised o (unopened st ct) w₁ opens cs l w calls

  -- 4 and 7 never come. A reference is answered with 5 exactly where refs is reached, with 6 exactly where the distinct blocks seen since the last
  -- flush, at the smallest block size, would be more than room, and else with 0; a flush always with 0
  pub never_4_nor_7 : (n : ℕ) (w' : World) (g : Given) → Takes w g n w' → (n ≡ 4 → ⊥) × (n ≡ 7 → ⊥)
  never_4_nor_7 = outcomes.neither_4_nor_7 o (unopened st ct) w₁ opens cs l w calls

  pub only_5_and_6 : (n : ℕ) (w' : World) (a : ℕ) → Takes w (ref a) n w'
      → n ≡ cond (eqb (total referred l) o.refs) 5 (cond (ltb o.room (length (seen_in o.bmin.0 (l ++ (ref a ∷ []))))) 6 0)
  only_5_and_6 = outcomes.answer_promised o (unopened st ct) w₁ opens cs l w calls

  pub flush_never_refused : (n : ℕ) (w' : World) → Takes w flush n w' → n ≡ 0
  flush_never_refused = outcomes.flush_promised o (unopened st ct) w₁ opens cs l w calls

  -- 6 is decided by the smallest block size alone
  pub smallest_decides_6 : (a : ℕ)
      → any_to (sizes o) (full_at w.state w.stacks (block_at w.state a)) ≡ full_at w.state w.stacks (block_at w.state a) 0
  smallest_decides_6 = outcomes.smallest_decides o (unopened st ct) w₁ opens cs l w calls

  -- misses answer 0 inside the order and 8 outside; ratios 8 outside it, and inside it 9 where no references are taken, else 0
  pub misses_0_or_8 : (b s n : ℕ) (q : Counted) → q ≡ misses_of w.state w.counts b s n → q.answer ≡ cond (has o b s n) 0 8
  misses_0_or_8 = outcomes.misses_listed o (unopened st ct) w₁ opens cs l w calls

  pub ratios_0_8_or_9 : (b s n : ℕ) (q : Rated) → q ≡ ratios_of w.state w.counts b s n
      → q.answer ≡ cond (has o b s n) (cond (eqb (total referred l) 0) 9 0) 8
  ratios_0_8_or_9 = outcomes.ratios_listed o (unopened st ct) w₁ opens cs l w calls

  -- the references taken are counted
  pub taken_counted : w.state.taken ≡ total referred l
  taken_counted = outcomes.taken_total o (unopened st ct) w₁ opens cs l w calls

  -- each stack is without repeats, a block is in it exactly if it was referenced since the last flush, and the entries beyond its used length
  -- are zero
  pub stack_distinct : (k : ℕ) → k < sizes o → Distinct (stack_at w.state w.stacks k)
  stack_distinct = outcomes.stack_once o (unopened st ct) w₁ opens cs l w calls

  pub stack_holds_the_referenced : (k : ℕ) → k < sizes o → (x : ℕ)
      → mem x (stack_at w.state w.stacks k) ≡ is_seen x (events_of (o.bmin.0 + k) l)
  stack_holds_the_referenced = outcomes.stack_holds o (unopened st ct) w₁ opens cs l w calls

  pub rest_zero : (k : ℕ) → k < sizes o → (j : ℕ) → used_of w.state k ≤ j → j < o.room → get_or w.stacks (k * o.room + j) 0 ≡ 0
  rest_zero = outcomes.rest_blank o (unopened st ct) w₁ opens cs l w calls

  -- entries past what the order needs are as they were before the opening
  pub calls_spare_the_rest : (drop (stack_need o) w.stacks ≡ drop (stack_need o) st) × (drop (count_need o) w.counts ≡ drop (count_need o) ct)
  calls_spare_the_rest = outcomes.calls_spare o (unopened st ct) w₁ opens cs l w calls

-- there are such calls, whatever is called, in any world
pub calls_exist : (w : World) (cs : List Call) → (l : List Given) × (w' : World) × Calls w cs l w'
calls_exist = calls_there

-- ---- so in the program: where the run is done, the misses given for each cache of the order in the lines are those of that one cache over what
-- the lines give: `refs=` counts the references in that and `flushes=` the flushes, and with `skipped=` they add up to the lines of the trace

module _ (st ct : List ℕ) (lines : List (List ℕ)) (o : Outcome) (run : Runs (desk start st ct) lines o) (done : o.answer ≡ 0) where
  pub demand_2_program : (b s w : ℕ) → has (order_in (header_of lines)) b s w ≡ true
      → (q : Counted) → q ≡ misses_of o.left.reading.opened o.left.counts b s w
      → (q.answer ≡ 0) × (q.misses ≡ misses_over b s w (given_of lines))
  demand_2_program = program_misses st ct lines o run done

  pub refs_printed : o.left.reading.opened.taken ≡ total referred (given_of lines)
  refs_printed = program_refs st ct lines o run done

  pub flushes_printed : o.left.reading.tally.flushes ≡ total flushed (given_of lines)
  flushes_printed = ap (λ (t : Tally). t.flushes) (program_tally st ct lines o run done)

  pub lines_add_up : (let r = o.left.reading in r.opened.taken + r.tally.skipped + r.tally.flushes) ≡ length (trace_of lines)
  lines_add_up = program_lines st ct lines o run done

-- ---- and from bytes to bytes: an input comes in any slices, and is cut into lines at each LF (crates/feeding/specs/Lines.antt)

module _ (st ct : List ℕ) (slices : List (List ℕ)) (d : Held Outcome) (feeds : Feeds noByte st ct slices d) where
  -- calls within the contracts of `feed` and `ended` leave what a run over the lines of these bytes leaves, so that demands 1 and 2 hold of it
  pub demand_1_bytes : Runs (desk start st ct) (lines_of (joined slices)) d.state
  demand_1_bytes = bytes_runs feeds

  -- and what is to be printed then is what is defined for the bytes alone (crates/printing/specs/Output.antt): the refusal and its line, or the
  -- whole table in its order, in which each number is `misses_over` of that one cache over what the lines give
  pub demand_2_bytes : output_of d.state.answer d.state.left.reading d.state.left.counts ≡ printed_for st ct (joined slices)
  demand_2_bytes = bytes.bytes_printed st ct slices d feeds

-- there are such calls, whatever the slices
pub feeds_exist : (slices : List (List ℕ)) (f : Feeding) (st ct : List ℕ)
    → Feeds f st ct slices (finished by_lines (fed by_lines (held_by f st ct) (joined slices)))
feeds_exist = feeds_there

-- the walk of the printed table goes over the caches of the order, each once: b, then s, then w upward
pub table_in_order : (o : Order) → within o ≡ true → Walks o (first_cache o) (grid_of o)
table_in_order = walk_is_grid

-- 26 comes at the first byte of the line too many, and a line too long ends the run at its 256th byte, whatever follows
module _ (o : Outcome) (line : List ℕ) (goes : o.answer ≡ 0) (rest : List ℕ) where
  pub too_many_at_once : is_too_many o.left.reading ≡ true → (b : ℕ)
      → (fed by_lines (held o 0 line) (b ∷ rest)).state ≡ stays (long_line o.left.reading) o.left
  too_many_at_once = bytes.many_ends o line goes rest

  pub too_long_at_once : is_too_many o.left.reading ≡ false → (part : List ℕ) → length part ≡ 255
      → ((i : ℕ) → i < length part → get_or part i 0 ≡ lf → ⊥) → (b : ℕ) → (b ≡ lf → ⊥)
      → (fed by_lines (held o 0 line) (part ++ (b ∷ rest))).state ≡ stays (long_line o.left.reading) o.left
  too_long_at_once = bytes.long_ends o line goes rest

-- ---- the twelve cases at b = 4

pub twelve_cases : map (λ s. map (λ w. misses_over 4 s w trace) (1 ∷ 2 ∷ 3 ∷ 4 ∷ [])) (0 ∷ 1 ∷ 2 ∷ [])
    ≡ (8 ∷ 8 ∷ 5 ∷ 4 ∷ []) ∷ (7 ∷ 5 ∷ 4 ∷ 4 ∷ []) ∷ (5 ∷ 4 ∷ 4 ∷ 4 ∷ []) ∷ []
twelve_cases = grid

-- ==== Demand 3: over that same definition, at one block size

-- a reference that hits in a cache also hits in every cache with at least as many sets and ways, across flushes too
pub demand_3_inclusion : (b s w s' w' : ℕ) → s ≤ s' → w ≤ w' → (l : List Given)
    → Each HitToo (simulate s w (events_of b l)) (simulate s' w' (events_of b l))
demand_3_inclusion b s w s' w' sets ways l = inclusion s w s' w' sets ways (events_of b l)

module _ (l : List ℕ) (b s : ℕ) (filter out : List ℕ) (r : Stripped) (filter' out' : List ℕ)
    (strip : Strips l b s filter out r filter' out') (done : r.answer ≡ 0) where
  -- strip leaves exactly the references that miss in the direct-mapped cache of that many sets, in order
  pub demand_3_kept : take r.kept out' ≡ without is_hit (simulate s 1 (touches_of b l)) l
  demand_3_kept = left_is_kept strip done

  module _ (s' w : ℕ) (sets : s ≤ s') where
    -- in every cache with at least that many sets and one way or more, each kept reference hits or misses as it did in the full list
    pub demand_3_as_before : simulate s' (suc w) (touches_of b (take r.kept out'))
        ≡ without is_hit (simulate s 1 (touches_of b l)) (simulate s' (suc w) (touches_of b l))
    demand_3_as_before = ap (λ (k : List ℕ). simulate s' (suc w) (touches_of b k)) (left_is_kept strip done) ∙ kept_as_before b s s' w sets l

    -- and each dropped one was a hit
    pub demand_3_dropped : Each HitToo (simulate s 1 (touches_of b l)) (simulate s' (suc w) (touches_of b l))
    demand_3_dropped = dropped_hit b s s' w sets l

    -- so the misses of the stripped list are those of the full list
    pub demand_3_misses : misses_over b s' (suc w) (map ref (take r.kept out')) ≡ misses_over b s' (suc w) (map ref l)
    demand_3_misses = ap (λ (k : List ℕ). misses_over b s' (suc w) (map ref k)) (left_is_kept strip done) ∙ misses_same b s s' w sets l

-- ---- and across flushes: what is given is runs of references with a flush between two of them, and strip covers one run

pub runs_of_all : (l : List Given) → (r : List ℕ) × (rs : List (List ℕ)) × (l ≡ joined_runs r rs)
runs_of_all = joined_all

-- each run is stripped by a call of its own, over any filter and output, and what the calls keep, k of the first and ks of the others, is joined
module _ (b s : ℕ) (r k : List ℕ) (rs ks : List (List ℕ)) (first : StripsTo b s r k) (others : Each (StripsTo b s) rs ks) where
  -- the whole then has exactly the flushes, and the references that miss in the direct-mapped cache of that many sets, in order
  pub demand_3_joined : joined_runs k ks ≡ without is_hit (simulate s 1 (events_of b (joined_runs r rs))) (joined_runs r rs)
  demand_3_joined = calls_kept b s r k rs ks first others

  module _ (s' w : ℕ) (sets : s ≤ s') where
    -- each of these hits or misses as it did
    pub demand_3_joined_as_before : simulate s' (suc w) (events_of b (joined_runs k ks))
        ≡ without is_hit (simulate s 1 (events_of b (joined_runs r rs))) (simulate s' (suc w) (events_of b (joined_runs r rs)))
    demand_3_joined_as_before =
        ap (λ (l : List Given). simulate s' (suc w) (events_of b l)) demand_3_joined ∙ whole_as_before b s s' w sets (joined_runs r rs)

    -- each dropped reference was a hit
    pub demand_3_joined_dropped : Each HitToo (simulate s 1 (events_of b (joined_runs r rs))) (simulate s' (suc w) (events_of b (joined_runs r rs)))
    demand_3_joined_dropped = whole_dropped b s s' w sets (joined_runs r rs)

    -- so the misses are those of the whole
    pub demand_3_joined_misses : misses_over b s' (suc w) (joined_runs k ks) ≡ misses_over b s' (suc w) (joined_runs r rs)
    demand_3_joined_misses = ap (misses_over b s' (suc w)) demand_3_joined ∙ whole_misses b s s' w sets (joined_runs r rs)
