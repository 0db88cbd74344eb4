-- What a step reads of a digest is what a look-up in its part's sprig says.
use Rattle.std.proofs.Common.{◌≡◌, ℕ, ◌<◌, Bool, true, false, not, cond, ◌&&◌, List, Option, Some, None, is_some, refl, sym, ◌∙◌, ap, arith}
use Rattle.std.specs.Prelude.{option_map, slice_get, MatchOption}
use Rattle.law_lists.proofs.Places.{place_there}
use Rattle.rec_format.specs.declared.version.Digest.{Digest}
use Rattle.rec_format.specs.declared.version.Version.{Version}
use Rattle.rec_format.specs.declared.entry.Entry.{Entry}
use Rattle.rec_format.specs.Places.{device_number}
use Rattle.rec_format.specs.Versions.{is_tomb_kind, is_expired, is_expired_put, is_live_put, a_put, void_time, new_stamp}
use Rattle.model_device.specs.Histories.{if_live}
use Rattle.model_device.specs.Legal.{seen_generation, the_stamp, new_put}
use Rattle.model_device.specs.Book.{Setup, live_of, live_of_entry}
use Rattle.model_device.specs.Device.{State, entry, entry_is_covered, entry_passes, seen, stamp_of, part_of, high_time, next_stamp_of}
use Rattle.sprig_tree.specs.Entries.{entry_of}
use Rattle.sprig_tree.specs.State.{SprigState}
use Rattle.law_sprig.specs.Fits.{HasEntries, FitsPart}
use Rattle.rec_format.specs.Entries.{Names}
use Rattle.law_sprig.specs.Tests.{passes_test, stamp_found, generation_seen}
use Rattle.tomb_rules.specs.Covers.{cover_of}
use Rattle.expiry_rule.specs.Seen.{is_expired_entry, is_live_entry}
use Rattle.law_sprig.specs.Parts.{FitsParts}
use Rattle.law_sprig.proofs.Alike.{Says}
use Rattle.law_sprig.proofs.Counting.{part_exists}
use Rattle.law_sprig.proofs.Showing.{entry_is}

module _ (setup : Setup) (part : ℕ) (sprig : SprigState) (s : State) (h : HasEntries setup part sprig s) (d : Digest) (mine : part_of setup d ≡ part) where
  -- the stamp of its entry
  pub stamp_is : stamp_of (entry s d) ≡ stamp_found (entry_of d sprig.entries)
  stamp_is = by (entry_of d sprig.entries) (h.shown d)
    where
      by : (o : Option Entry) → Says setup part s d o → stamp_of (entry s d) ≡ stamp_found o
      by None says = ap stamp_of (says mine).top
      by (Some e) says = ap stamp_of says.1.top ∙ ap Some (sym says.1.names.stamp)

  -- its cover flag
  pub cover_is : entry_is_covered s d ≡ cover_of (entry_of d sprig.entries)
  cover_is = by (entry_of d sprig.entries) (entry_is setup part sprig s h d mine)
    where
      by : (o : Option Entry) → MatchOption o ((entry s d ≡ None) × (entry_is_covered s d ≡ false)) (λ e. (v : Version) × (entry s d ≡ Some v) × Names e v × (entry_is_covered s d ≡ e.cover))
          → entry_is_covered s d ≡ cover_of o
      by None says = says.1
      by (Some e) says = says.3

  -- where its copy lies
  pub place_is : live_of d s.book.live ≡ option_map live_of_entry (entry_of d sprig.entries)
  place_is = by (entry_of d sprig.entries) (h.shown d)
    where
      by : (o : Option Entry) → Says setup part s d o → live_of d s.book.live ≡ option_map live_of_entry o
      by None says = (says mine).place
      by (Some e) says = says.1.place

  -- and the stamp that a new version of it gets
  pub next_stamp_is : (now : ℕ) → next_stamp_of setup s now d ≡ new_stamp (stamp_found (entry_of d sprig.entries)) sprig.hw now
  next_stamp_is now = (λ i. new_stamp (stamp_is i) (high_time setup (mine i) s.log) now) ∙ ap (λ (n : ℕ). new_stamp (stamp_found (entry_of d sprig.entries)) n now) (sym h.high)

  -- whether it is an expired put, and whether a reader sees it
  pub expired_found : (now : ℕ) → entry_passes (is_expired_put now) (entry s d) ≡ passes_test (is_expired_entry now) (entry_of d sprig.entries)
  expired_found now = by (entry_of d sprig.entries) (h.shown d)
    where
      by : (o : Option Entry) → Says setup part s d o → entry_passes (is_expired_put now) (entry s d) ≡ passes_test (is_expired_entry now) o
      by None says = ap (entry_passes (is_expired_put now)) (says mine).top
      by (Some e) says =
          ap (entry_passes (is_expired_put now)) says.1.top ∙ (λ i. not (is_tomb_kind (sym says.1.names.kind i)) && is_expired now (sym says.1.names.void i))

  pub seen_found : (now : ℕ) → is_some (seen s now d) ≡ passes_test (is_live_entry now) (entry_of d sprig.entries)
  seen_found now = by (entry_of d sprig.entries) (h.shown d)
    where
      told : (b : Bool) (v : Version) → is_some (cond b (Some v) None) ≡ b
      told true v = refl
      told false v = refl

      by : (o : Option Entry) → Says setup part s d o → is_some (seen s now d) ≡ passes_test (is_live_entry now) o
      by None says = ap (λ (o : Option Version). is_some (if_live now o)) (says mine).top
      by (Some e) says =
          ap (λ (o : Option Version). is_some (if_live now o)) says.1.top ∙ told (is_live_put now says.1.version) says.1.version
          ∙ (λ i. not (is_tomb_kind (sym says.1.names.kind i)) && not (is_expired now (sym says.1.names.void i)))

  -- the generation that a put is compared with
  pub generation_found : (now : ℕ) → seen_generation (seen s now d) ≡ generation_seen now (entry_of d sprig.entries)
  generation_found now = by (entry_of d sprig.entries) (h.shown d)
    where
      told : (b : Bool) (v : Version) → seen_generation (cond b (Some v) None) ≡ cond b v.stamp.gen_ 0
      told true v = refl
      told false v = refl

      by : (o : Option Entry) → Says setup part s d o → seen_generation (seen s now d) ≡ generation_seen now o
      by None says = ap (λ (o : Option Version). seen_generation (if_live now o)) (says mine).top
      by (Some e) says =
          ap (λ (o : Option Version). seen_generation (if_live now o)) says.1.top ∙ told (is_live_put now says.1.version) says.1.version
          ∙ (λ i. cond (not (is_tomb_kind (sym says.1.names.kind i)) && not (is_expired now (sym says.1.names.void i))) (sym says.1.names.stamp i).gen_ 0)

  -- the version that a put writes
  pub new_put_is : (ttl : ℕ) (payload : List ℕ) (now : ℕ)
      → new_put setup s d ttl payload now ≡ a_put (the_stamp (new_stamp (stamp_found (entry_of d sprig.entries)) sprig.hw now)) (void_time ttl now) (cover_of (entry_of d sprig.entries)) payload
  new_put_is ttl payload now = (λ i. a_put (the_stamp (next_stamp_is now i)) (void_time ttl now) (cover_is i) payload)

-- ---- the sprig of a digest

-- Each digest of the device has a sprig, which fits.
pub sprig_of : (setup : Setup) (sprigs : List SprigState) (s : State) (d : Digest) → 0 < setup.devices → 0 < setup.sprigs → device_number setup.devices d ≡ setup.device → FitsParts setup sprigs s
    → (sprig : SprigState) × (slice_get sprigs (part_of setup d) ≡ Some sprig) × FitsPart setup (part_of setup d) sprig s
sprig_of setup sprigs s d some_devices some_sprigs own fits =
    let below = part_exists setup d some_devices some_sprigs own in
    let at = place_there sprigs (part_of setup d) (omega (arith, below, fits.count)) in
    (at.0, at.1, fits.each (part_of setup d) at.0 at.1)
