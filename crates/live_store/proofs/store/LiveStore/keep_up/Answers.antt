use Rattle.std.proofs.Common.{List, refl, sym, subst, ◌∙◌}
use Rattle.live_node.specs.Lives.{LivePass, IsPassAt}
use Rattle.live_store.specs.Known.{KeepNumbers, known_each}
use Rattle.live_store.specs.Works.{CountsOnce, EachDevice}
use Rattle.live_store.specs.Upkeep.{call_of}
use Rattle.live_store.proofs.Acting.{back_is, numbers_all, seated_all}
use Rattle.live_store.proofs.Pairs.{pairs_length}
use Rattle.live_store.proofs.store.LiveStore.keep_up.Goals as goal

pub invariant_of-self : goal.invariant_of-self
invariant_of-self g c =
    let e = c.keep_up_each.ensures in
    let store = c.args.self.now in
    let lives = store.lives.now in
    let passes = store.passes.items in
    record {
      devices = store.devices;
      seated = seated_all passes c.keep_up_each.new.passes store.passes.len store.passes.ok.0
          (pairs_length IsPassAt lives c.keep_up_each.new.passes e.passes ∙ sym (pairs_length IsPassAt lives passes store.seated)) lives e.passes;
    }

pub returns : goal.returns
returns g c =
    let e = c.keep_up_each.ensures in
    let store = c.args.self.now in
    let lives = store.lives.now in
    let passes = store.passes.items in
    let new = c.keep_up_each.new.passes in
    let whole = store.passes.ok.0 in
    let many = pairs_length IsPassAt lives new e.passes ∙ sym (pairs_length IsPassAt lives passes store.seated) in
    let same = c.deref_mut.ensures.value in
    record {
      lives = refl;
      numbers = numbers_all passes new store.passes.len whole many (subst (λ (l : List (LivePass g.row.D.Denot)). KeepNumbers l new) same e.numbers);
      counts = (
        e.counts.0,
        e.counts.1,
        subst (λ (l : List (LivePass g.row.D.Denot)). EachDevice (CountsOnce g.D.Disk.view (call_of c.args.upkeep)) (known_each lives passes) (known_each lives l) 0 0 e.counts.0)
            (sym (back_is passes new store.passes.len whole many))
            (subst (λ (l : List (LivePass g.row.D.Denot)). EachDevice (CountsOnce g.D.Disk.view (call_of c.args.upkeep)) (known_each lives l) (known_each lives new) 0 0 e.counts.0) same e.counts.2),
      );
    }
