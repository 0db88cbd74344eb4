-- Record by record, until one isn't there or all of them are.
use Rattle.std.proofs.Common.{◌≡◌, ℕ, ◌+◌, List, sym, inl, inr, subst, arith}
use Rattle.block_format.specs.declared.geometry.Found.{Found}
use Rattle.block_format.specs.Readings.{HasRecords}
use Rattle.block_format.proofs.BodyRecords.{records_more, records_none}
use Rattle.block_format.proofs.body.read_records.Goals as goal

pub loop-record-init : goal.loop-record-init
loop-record-init c = (
  subst (λ (found : List Found). HasRecords c.args.body.now 0 0 found) (sym c.new-found.ensures.items) (records_none c.args.body.now),
  omega arith,
)

pub next_record-requires-clause-used : goal.next_record-requires-clause-used
next_record-requires-clause-used c = c.loop-record.invariant.1

pub record_place-requires : goal.record_place-requires
record_place-requires c = omega (arith, c.loop-record.invariant.1)

pub returns-in_default-clause-refused : goal.returns-in_default-clause-refused
returns-in_default-clause-refused c = record {
  done = c.loop-record._record;
  used = c.loop-record.used;
  found = c.loop-record.found.items;
  front = c.loop-record.invariant.0;
  within = c.loop-record.invariant.1;
  place_is = c.record_place.ensures;
  fault = inl (c.loop-record-test.true, c.in_default.ensures.none);
}

pub loop-record-preserved : goal.loop-record-preserved
loop-record-preserved c =
    let next = c.in-Some.next in
    let more = records_more c.args.body.now c.loop-record._record c.loop-record.used c.args.head.now.units c.loop-record.found.items next c.loop-record.invariant.0 c.in-Some.ensures.next in (
      subst (λ (found : List Found). HasRecords c.args.body.now (c.loop-record._record + 1) (c.loop-record.used + next.units) found) (sym c.in-Ok.ensures.items) more,
      c.in-Some.ensures.next.within,
    )

pub record_place-requires-then-used-head : goal.record_place-requires-then-used-head
record_place-requires-then-used-head c = omega (arith, c.loop-record.invariant.1)

pub returns-then-used-head-clause-refused : goal.returns-then-used-head-clause-refused
returns-then-used-head-clause-refused c =
    let all : c.loop-record._record ≡ c.args.head.now.records = omega arith in
    record {
      done = c.loop-record._record;
      used = c.loop-record.used;
      found = c.loop-record.found.items;
      front = c.loop-record.invariant.0;
      within = c.loop-record.invariant.1;
      place_is = c.record_place-then-used-head.ensures;
      fault = inr (all, c.if-used-head.true);
    }

pub returns-clause-found : goal.returns-clause-found
returns-clause-found c =
    let all : c.loop-record._record ≡ c.args.head.now.records = omega arith in
    subst (λ (p : ℕ × ℕ). HasRecords c.args.body.now p.0 p.1 c.loop-record.found.items) (λ i. (all i, c.if-used-head.false i)) c.loop-record.invariant.0
