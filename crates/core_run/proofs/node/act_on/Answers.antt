use Rattle.std.proofs.Common.{◌≡◌, refl, List, ℕ, sym, subst, ap, ◌∙◌}
use Rattle.rec_format.specs.declared.version.Digest.{Digest}
use Rattle.model_device.specs.Device.{seen}
use Rattle.model_device.specs.Events.{put_call, bury_call}
use Rattle.shard_core.specs.Calls.{write_answer, meta_of, Makes}
use Rattle.line_proto.specs.declared.command.Command.{Command}
use Rattle.node_replies.specs.Digests.{digest_of}
use Rattle.core_run.specs.Turns.{GetsOn, RepliesOn}
use Rattle.core_run.proofs.Replying.{written_goes_on, read_goes_on, one_digest}
use Rattle.core_run.proofs.node.act_on.Goals as goal

pub returns-in-Put-clause-replies : goal.returns-in-Put-clause-replies
returns-in-Put-clause-replies g c =
    let d = g.D.Disk in
    let same : c.args.digest.now ≡ c.in-Put.digest = one_digest c.args.digest.now c.in-Put.digest (sym c.requires.on ∙ ap digest_of c.in-Put.is) in
    subst (λ (command : Command). RepliesOn d.view c.args.shard.now command c.args.now c.write_reply.result c.put.new.self) (sym c.in-Put.is) (
      write_answer c.put.result,
      c.write_reply.ensures,
      (λ h. written_goes_on c.put.result (sym c.write_reply.ensures ∙ h)),
      λ s agrees.
          subst (λ (digest : Digest). Makes d.view (put_call digest c.in-Put.ttl c.in-Put.expect c.in-Put.payload c.args.now) (write_answer c.put.result) c.args.shard.now s c.put.new.self) same
          (subst (λ (payload : List ℕ). Makes d.view (put_call c.args.digest.now c.in-Put.ttl c.in-Put.expect payload c.args.now)
          (write_answer c.put.result) c.args.shard.now s c.put.new.self) c.as_slice.ensures
          (c.put.ensures.makes s agrees)),
    )

pub returns-in-Meta-clause-replies : goal.returns-in-Meta-clause-replies
returns-in-Meta-clause-replies g c =
    let d = g.D.Disk in
    let same : c.args.digest.now ≡ c.in-Meta.field-0 = one_digest c.args.digest.now c.in-Meta.field-0 (sym c.requires.on ∙ ap digest_of c.in-Meta.is) in
    subst (λ (command : Command). RepliesOn d.view c.args.shard.now command c.args.now c.known_reply.result c.args.shard.now) (sym c.in-Meta.is)
    (refl, λ s agrees. c.known_reply.ensures (seen s c.args.now c.in-Meta.field-0) (c.meta.ensures s agrees ∙ ap (λ (digest : Digest). meta_of (seen s c.args.now digest)) same))

pub returns-in-Bury-clause-replies : goal.returns-in-Bury-clause-replies
returns-in-Bury-clause-replies g c =
    let d = g.D.Disk in
    let same : c.args.digest.now ≡ c.in-Bury.field-0 = one_digest c.args.digest.now c.in-Bury.field-0 (sym c.requires.on ∙ ap digest_of c.in-Bury.is) in
    subst (λ (command : Command). RepliesOn d.view c.args.shard.now command c.args.now c.write_reply-in-Bury.result c.bury.new.self) (sym c.in-Bury.is) (
      write_answer c.bury.result,
      c.write_reply-in-Bury.ensures,
      (λ h. written_goes_on c.bury.result (sym c.write_reply-in-Bury.ensures ∙ h)),
      λ s agrees.
          subst (λ (digest : Digest). Makes d.view (bury_call digest c.args.now) (write_answer c.bury.result) c.args.shard.now s c.bury.new.self) same (c.bury.ensures.makes s agrees),
    )

pub returns-in-Get-clause-replies : goal.returns-in-Get-clause-replies
returns-in-Get-clause-replies g c =
    let d = g.D.Disk in
    let same : c.args.digest.now ≡ c.in-Get.field-0 = one_digest c.args.digest.now c.in-Get.field-0 (sym c.requires.on ∙ ap digest_of c.in-Get.is) in
    subst (λ (command : Command). RepliesOn d.view c.args.shard.now command c.args.now c.read_reply.result c.get_in.new.self) (sym c.in-Get.is)
    (subst (λ (digest : Digest). GetsOn d.view c.args.shard.now digest c.args.now c.read_reply.result c.get_in.new.self) same
    (record {
      got = c.get_in.result;
      reply_is = c.read_reply.ensures;
      goes_on = λ h. read_goes_on c.get_in.result (sym c.read_reply.ensures ∙ h);
      makes = c.get_in.ensures.makes;
      stored = c.get_in.ensures.stored;
      whole = c.get_in.ensures.whole;
      own = c.requires.place;
    }))
