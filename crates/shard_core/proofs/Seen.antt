-- What is seen of a digest has an entry in the sprig of its part, and its copy lies where the state says.
use Rattle.std.proofs.Common.{◌≡◌, ℕ, refl, sym, ◌∙◌, ap, subst, arith}
use Rattle.std.specs.Prelude.{Option, Some, None, slice_get}
use Rattle.law_lists.proofs.Each.{all_get}
use Rattle.rec_format.specs.declared.version.Digest.{Digest}
use Rattle.rec_format.specs.declared.version.Version.{Version}
use Rattle.rec_format.specs.declared.entry.Entry.{Entry}
use Rattle.rec_format.specs.Entries.{Names}
use Rattle.rec_format.specs.Places.{device_number}
use Rattle.model_device.specs.Book.{live_of, live_of_entry}
use Rattle.model_device.specs.Device.{State, seen, part_of}
use Rattle.disk_model.specs.Disk.{DiskView}
use Rattle.expiry_rule.specs.Seen.{seen_entry}
use Rattle.sprig_tree.specs.Entries.{entry_of}
use Rattle.sprig_tree.specs.State.{SprigState}
use Rattle.law_sprig.specs.Fits.{FitsPart}
use Rattle.law_sprig.proofs.Looking.{sprig_of}
use Rattle.law_steps.specs.Sprigs.{HasTimes}
use Rattle.law_steps.specs.Standing.{StandTogether}
use Rattle.law_steps.proofs.Found.{entry_named, live_found}
use Rattle.block_shelf.specs.View.{IsShelf}
use Rattle.shard_core.specs.Sprigs.{held, entry_in}
use Rattle.shard_core.specs.View.{ShardView, setup_of}
use Rattle.shard_core.specs.Stands.{Agrees, IsWhole}
use Rattle.shard_core.proofs.Found.{SeenIs, seen_none, seen_some}

-- the entry of what is seen
pub record SeenAt {D : Type 0} (shard : ShardView D) (s : State) (digest : Digest) (now : ℕ) (v : Version) : Type 0 where
  pub entry : Entry
  pub held_is : held (setup_of shard) digest shard.sprigs ≡ Some entry
  pub seen_is : seen_entry now (held (setup_of shard) digest shard.sprigs) ≡ Some entry
  pub digest_is : entry.digest ≡ digest
  pub names : Names entry v
  pub place : live_of digest s.book.live ≡ Some (live_of_entry entry)

module _ {D : Type 0} (view : D → DiskView) (shard : ShardView D) (s : State) (is : IsShelf view shard.shelf) (whole : IsWhole shard) (agrees : Agrees shard s)
    (digest : Digest) (own : device_number shard.shelf.geometry.devices digest ≡ shard.shelf.geometry.device) (now : ℕ) (v : Version) (sees : seen s now digest ≡ Some v) where
  pub seen_at : SeenAt shard s digest now v
  seen_at =
      let mine = sprig_of (setup_of shard) shard.sprigs s digest (omega (arith, is.geometry.device)) (omega (arith, whole.settings.sprigs)) own agrees.sprigs in
      of mine.0 mine.1 mine.2
    where
      of : (sprig : SprigState) → slice_get shard.sprigs (part_of (setup_of shard) digest) ≡ Some sprig → FitsPart (setup_of shard) (part_of (setup_of shard) digest) sprig s
          → SeenAt shard s digest now v
      of sprig there fits = by (seen_entry now (entry_of digest sprig.entries)) refl
        where
          stand : StandTogether (setup_of shard) (part_of (setup_of shard) digest) sprig shard.shelf s
          stand = record {
            sprig_stands = record { fits = fits; times = all_get HasTimes shard.sprigs (part_of (setup_of shard) digest) sprig agrees.times there };
            shelf_stands = agrees.shelf;
          }

          held_at : held (setup_of shard) digest shard.sprigs ≡ entry_of digest sprig.entries
          held_at = ap (entry_in digest) there

          by : (o : Option Entry) → seen_entry now (entry_of digest sprig.entries) ≡ o → SeenAt shard s digest now v
          by None none =
              let unseen = seen_none (setup_of shard) s now digest sprig stand.sprig_stands none in
              let clash : None ≡ Some v = sym unseen ∙ sees in
              absurd (cc)
          by (Some e) some =
              let found : SeenIs s now digest sprig.entries e = seen_some (setup_of shard) s now digest sprig stand.sprig_stands e some in
              let both : Some found.version ≡ Some v = sym found.seen ∙ sees in
              let same : found.version ≡ v = cc in
              record {
                entry = e;
                held_is = held_at ∙ found.found_is;
                seen_is = ap (seen_entry now) held_at ∙ some;
                digest_is = sym (entry_named digest sprig.entries e found.found_is);
                names = subst (Names e) same found.names;
                place = live_found (setup_of shard) digest sprig shard.shelf s stand e found.found_is;
              }
