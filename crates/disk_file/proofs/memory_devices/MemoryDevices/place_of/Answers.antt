use Rattle.std.proofs.Common.{sym, ap, ◌∙◌}
use Rattle.disk_file.specs.MemoryNames.{NamesState}
use Rattle.disk_file.proofs.Entries.{named_at, none_more, none_left}
use Rattle.disk_file.proofs.memory_devices.MemoryDevices.place_of.Goals as goal

pub returns-then-eq : goal.returns-then-eq
returns-then-eq c = record {
  named = named_at c.self.inside.entries.items _ c.len-at-end.result c.loop-at.at c.index.result.now c.as_str.result.now c.args.name.now
      (ap (λ (s : NamesState). s.entries) c.self.view_is) (c.len-at-end.ensures ∙ c.self.inside.entries.ok.0) c.loop-at-test.true
      c.index.ensures c.as_str.ensures.value (sym c.if-eq.true ∙ c.eq.ensures);
  first = c.loop-at.invariant.none;
}

pub loop-at-preserved : goal.loop-at-preserved
loop-at-preserved c = record {
  none = none_more c.self.inside.entries.items _ c.len-at-end.result c.loop-at.at c.index.result.now c.as_str.result.now c.args.name.now
      (ap (λ (s : NamesState). s.entries) c.self.view_is) c.loop-at.invariant.none (c.len-at-end.ensures ∙ c.self.inside.entries.ok.0) c.loop-at-test.true
      c.index.ensures c.as_str.ensures.value (sym c.if-eq.false ∙ c.eq.ensures);
}

pub returns : goal.returns
returns c = record {
  named = none_left c.self.inside.entries.items _ c.len-at-end.result c.loop-at.at c.args.name.now (ap (λ (s : NamesState). s.entries) c.self.view_is)
      c.loop-at.invariant.none (c.len-at-end.ensures ∙ c.self.inside.entries.ok.0) c.loop-at-test.false;
  first = tt;
}
