use Rattle.std.proofs.Common.{inl, inr, List, get_or, set, refl, sym, ap, subst, ◌∙◌, arith}
use Rattle.std.specs.Prelude.{Some, option_map}
use Rattle.std.proofs.lemmas.Option.{slice_get-get_or}
use Rattle.rec_format.specs.Places.{device_number}
use Rattle.line_proto.specs.declared.command.Command.{Command}
use Rattle.line_proto.specs.declared.command.Command.TheVariants as command
use Rattle.line_proto.specs.declared.reply.Reply.TheVariants as reply
use Rattle.line_proto.specs.declared.reply.LineFault.TheVariants as why
use Rattle.turn_table.specs.Passes.{KeepsNumbers}
use Rattle.live_node.specs.Lives.{Live, LivePass, IsPassAt}
use Rattle.live_store.specs.Known.{AreDevices, KeepNumbers, known_each}
use Rattle.live_store.specs.Works.{RepliesOn, Defragments, Expires, EachDevice, Carries}
use Rattle.live_store.specs.Stores.{Acts, known_by}
use Rattle.live_store.proofs.Acting.{Stays, calls_one, carries_one, carries_all, numbers_all, seated_all, flushed_stays, healed_stays, defragged_stays, expired_stays}
use Rattle.live_store.proofs.Pairs.{pairs_length, pair_at, pair_set, pair_then, pairs_same}
use Rattle.live_store.proofs.store.LiveStoreStore.act_in.Goals as goal

pub index_mut-requires : goal.index_mut-requires
index_mut-requires g c =
    let many = pairs_length IsPassAt c.args.self.now.lives.now c.args.self.now.passes.items c.args.self.now.seated in
    let there = c.device_of.ensures.below in
    let at = c.from-device.ensures in
    let all = c.args.self.now.passes.ok.0 in
    omega (arith, many, there, at, all)

pub act_on-requires-clause-pass : goal.act_on-requires-clause-pass
act_on-requires-clause-pass g c =
    let there = c.device_of.ensures.below in
    let at = c.from-device.ensures in
    pair_at IsPassAt c.args.self.now.lives.now c.args.self.now.passes.items c.from-device.result (get_or c.args.self.now.lives.now c.from-device.result c.index-self-device.result)
    c.index_mut.result.now c.args.self.now.seated (omega (arith, there, at))
    (ap (get_or c.args.self.now.lives.now c.from-device.result) c.index-self-device.is) c.index_mut.ensures.value

pub act_on-requires-clause-own : goal.act_on-requires-clause-own
act_on-requires-clause-own g c =
    let below = c.device_of.ensures.below in
    let at = c.from-device.ensures in
    let there = slice_get-get_or c.args.self.now.lives.now c.from-device.result (get_or c.args.self.now.lives.now c.from-device.result c.index-self-device.result) (omega (arith, below, at))
    ∙ ap (λ (x : Live g.row.D.Denot). Some x) (sym (ap (get_or c.args.self.now.lives.now c.from-device.result) c.index-self-device.is)) in
    let device = c.args.self.now.devices.numbered c.from-device.result (get_or c.args.self.now.lives.now c.from-device.result c.index-self-device.result) there in
    ap (λ n. device_number n c.in-Some.digest.now) device.all ∙ sym c.device_of.ensures.value ∙ sym at ∙ sym device.number

-- ---- a command on a digest

pub invariant_of-self : goal.invariant_of-self
invariant_of-self g c = record {
  devices = c.args.self.now.devices;
  seated =
      let there = c.device_of.ensures.below in
      let at = c.from-device.ensures in
      pair_set IsPassAt c.args.self.now.lives.now c.args.self.now.passes.items c.from-device.result (get_or c.args.self.now.lives.now c.from-device.result c.index-self-device.result)
      c.act_on.new.pass c.args.self.now.seated (omega (arith, there, at))
      (ap (get_or c.args.self.now.lives.now c.from-device.result) c.index-self-device.is) c.act_on.ensures.pass;
}

pub returns-in-Some : goal.returns-in-Some
returns-in-Some g c =
    let below = c.device_of.ensures.below in
    let at = c.from-device.ensures in
    let many = pairs_length IsPassAt c.args.self.now.lives.now c.args.self.now.passes.items c.args.self.now.seated in
    let kept = c.act_on.ensures.numbers in
    let lives = c.args.self.now.lives.now in
    let passes = c.args.self.now.passes.items in
    record {
      lives = refl;
      numbers = pair_then KeepsNumbers passes passes c.from-device.result c.index_mut.result.now c.act_on.new.pass (pairs_same KeepsNumbers (λ pass. (refl, refl)) passes)
          (omega (arith, below, at, many)) c.index_mut.ensures.value (λ first before. (kept.0 ∙ before.0, kept.1 ∙ before.1));
      carries = carries_one g.D.Disk.view (known_each lives passes) (known_each lives (set passes c.from-device.result c.act_on.new.pass)) c.args.now c.act_on.result c.in-Some.digest.now
          c.args.command.now (sym c.digest_of.ensures ∙ ap (option_map (λ d. d.now)) c.in-Some.is)
          (calls_one (RepliesOn g.D.Disk.view c.args.command.now c.args.now c.act_on.result) lives passes c.in-Some.digest.now c.from-device.result
          (get_or c.args.self.now.lives.now c.from-device.result c.index-self-device.result) c.index_mut.result.now
          c.act_on.new.pass (omega (arith, below, at)) many (ap (get_or c.args.self.now.lives.now c.from-device.result) c.index-self-device.is) c.index_mut.ensures.value
          (at ∙ c.device_of.ensures.value) c.act_on.ensures.replies);
      goes_on = (c.act_on.ensures.goes_on.0, c.act_on.ensures.goes_on.1);
      mode = λ is. absurd (c.act_on.ensures.goes_on.2 is);
    }

-- ---- one over all devices

pub invariant_of-self-in-Defrag : goal.invariant_of-self-in-Defrag
invariant_of-self-in-Defrag g c =
    let e = c.defrag_each.ensures in
    let store = c.args.self.now in
    let lives = store.lives.now in
    let passes = store.passes.items in
    record {
      devices = subst (λ n. AreDevices n lives) (sym e.room) store.devices;
      seated = seated_all passes c.defrag_each.new.passes store.passes.len store.passes.ok.0
          (pairs_length IsPassAt lives c.defrag_each.new.passes e.passes ∙ sym (pairs_length IsPassAt lives passes store.seated)) lives e.passes;
    }

pub returns-in-Flush : goal.returns-in-Flush
returns-in-Flush g c =
    let e = c.keep_up.ensures in
    let replied = c.flush_reply.ensures e.counts.0 e.counts.1 in
    let stays = subst Stays (sym replied) (flushed_stays c.keep_up.result e.counts.0 e.counts.1) in
    record {
      lives = e.lives;
      numbers = e.numbers;
      carries = subst (λ (x : Command). Carries g.D.Disk.view (known_by c.args.self.now) x c.args.now c.flush_reply.result (known_by c.keep_up.new.self)) (sym c.in-Flush.is)
          (record { outcome = e.counts.0; works = e.counts.2; replied = replied });
      goes_on = (stays.0, stays.1);
      mode = λ is. absurd (stays.2 is);
    }

pub returns-in-Heal : goal.returns-in-Heal
returns-in-Heal g c =
    let e = c.keep_up-in-Heal.ensures in
    let replied = c.heal_reply.ensures e.counts.0 e.counts.1 in
    let stays = subst Stays (sym replied) (healed_stays c.keep_up-in-Heal.result e.counts.0 e.counts.1) in
    record {
      lives = e.lives;
      numbers = e.numbers;
      carries = subst (λ (x : Command). Carries g.D.Disk.view (known_by c.args.self.now) x c.args.now c.heal_reply.result (known_by c.keep_up-in-Heal.new.self)) (sym c.in-Heal.is)
          (record { outcome = e.counts.0; works = e.counts.2; replied = replied });
      goes_on = (stays.0, stays.1);
      mode = λ is. absurd (stays.2 is);
    }

pub returns-in-Defrag : goal.returns-in-Defrag
returns-in-Defrag g c =
    let e = c.defrag_each.ensures in
    let store = c.args.self.now in
    let lives = store.lives.now in
    let passes = store.passes.items in
    let whole = store.passes.ok.0 in
    let many = pairs_length IsPassAt lives c.defrag_each.new.passes e.passes ∙ sym (pairs_length IsPassAt lives passes store.seated) in
    let same = c.deref_mut.ensures.value in
    let replied = c.defrag_reply.ensures e.defrags.0 e.defrags.1 in
    let stays = subst Stays (sym replied) (defragged_stays c.defrag_each.result e.defrags.0 e.defrags.1) in
    record {
      lives = refl;
      numbers = numbers_all passes c.defrag_each.new.passes store.passes.len whole many (subst (λ (l : List (LivePass g.row.D.Denot)). KeepNumbers l c.defrag_each.new.passes) same e.numbers);
      carries = carries_all passes c.defrag_each.new.passes store.passes.len whole many g.D.Disk.view lives c.args.command.now command.Defrag c.args.now c.defrag_reply.result c.in-Defrag.is
          (record {
            outcome = e.defrags.0;
            works = subst (λ (l : List (LivePass g.row.D.Denot)). EachDevice (Defragments g.D.Disk.view) (known_each lives l) (known_each lives c.defrag_each.new.passes) 0 0 e.defrags.0) same
                e.defrags.2;
            replied = replied;
          });
      goes_on = (stays.0, stays.1);
      mode = λ is. absurd (stays.2 is);
    }

pub returns-in-Expire : goal.returns-in-Expire
returns-in-Expire g c =
    let e = c.expire_each.ensures in
    let store = c.args.self.now in
    let lives = store.lives.now in
    let passes = store.passes.items in
    let whole = store.passes.ok.0 in
    let many = pairs_length IsPassAt lives c.expire_each.new.passes e.passes ∙ sym (pairs_length IsPassAt lives passes store.seated) in
    let same = c.deref_mut-in-Expire.ensures.value in
    let replied = c.expire_reply.ensures e.expires.0 e.expires.1 in
    let stays = subst Stays (sym replied) (expired_stays c.expire_each.result e.expires.0 e.expires.1) in
    record {
      lives = refl;
      numbers = numbers_all passes c.expire_each.new.passes store.passes.len whole many (subst (λ (l : List (LivePass g.row.D.Denot)). KeepNumbers l c.expire_each.new.passes) same e.numbers);
      carries = carries_all passes c.expire_each.new.passes store.passes.len whole many g.D.Disk.view lives c.args.command.now command.Expire c.args.now c.expire_reply.result c.in-Expire.is
          (record {
            outcome = e.expires.0;
            works = subst (λ (l : List (LivePass g.row.D.Denot)). EachDevice (Expires g.D.Disk.view c.args.now) (known_each lives l) (known_each lives c.expire_each.new.passes) 0 0 e.expires.0) same
                e.expires.2;
            replied = replied;
          });
      goes_on = (stays.0, stays.1);
      mode = λ is. absurd (stays.2 is);
    }

-- ---- one that there is no call for

pub returns-in-Raid : goal.returns-in-Raid
returns-in-Raid g c = elim c.in-Raid.is [
  | inl is ↦ subst (λ (x : Command). Acts g.D.Disk.view c.args.self.now x c.args.now (reply.Fail why.Mode) c.args.self.now) (sym is) (record {
    lives = refl;
    numbers = pairs_same KeepsNumbers (λ pass. (refl, refl)) c.args.self.now.passes.items;
    carries = (refl, refl);
    goes_on = ((λ is. absurd cc), (λ is. absurd cc));
    mode = λ is. tt;
  })
  | inr is ↦ subst (λ (x : Command). Acts g.D.Disk.view c.args.self.now x c.args.now (reply.Fail why.Mode) c.args.self.now) (sym is) (record {
    lives = refl;
    numbers = pairs_same KeepsNumbers (λ pass. (refl, refl)) c.args.self.now.passes.items;
    carries = (refl, refl);
    goes_on = ((λ is. absurd cc), (λ is. absurd cc));
    mode = λ is. tt;
  })
]
