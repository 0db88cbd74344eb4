-- What is known of the entry that a look-up in the sprig of its part finds.
use Rattle.std.proofs.Common.{◌≡◌, ℕ, Bool, true, false, not, ◌&&◌, cond, List, refl, ◌∙◌, ap, subst}
use Rattle.std.specs.Prelude.{Option, Some, None}
use Rattle.rec_format.specs.declared.version.Digest.{Digest}
use Rattle.rec_format.specs.declared.version.Kind.{Kind}
use Rattle.rec_format.specs.declared.version.Version.{Version}
use Rattle.rec_format.specs.declared.entry.Entry.{Entry}
use Rattle.rec_format.specs.Entries.{Names}
use Rattle.rec_format.specs.Versions.{is_tomb_kind, is_expired, is_expired_put, is_live_put}
use Rattle.model_device.specs.Histories.{if_live}
use Rattle.model_device.specs.Book.{Setup}
use Rattle.model_device.specs.Device as device
use Rattle.model_device.specs.Device.{State, part_of}
use Rattle.expiry_rule.specs.Seen.{seen_entry, is_live_entry, expired_entry, is_expired_entry}
use Rattle.sprig_tree.specs.Entries.{entry_of}
use Rattle.sprig_tree.specs.State.{SprigState}
use Rattle.law_sprig.specs.Tests.{passes_test}
use Rattle.law_sprig.proofs.Alike.{Says}
use Rattle.law_sprig.proofs.Looking.{expired_found}
use Rattle.law_steps.specs.Standing.{SprigStands}

live_same : (now : ℕ) (e : Entry) (v : Version) → Names e v → is_live_entry now e ≡ is_live_put now v
live_same now e v names =
    ap (λ (k : Kind). not (is_tomb_kind k) && not (is_expired now e.void)) names.kind ∙ ap (λ (n : ℕ). not (is_tomb_kind v.kind) && not (is_expired now n)) names.void

-- the version of an entry that is seen
pub record SeenIs (s : State) (now : ℕ) (digest : Digest) (entries : List Entry) (e : Entry) : Type 0 where
  pub version : Version
  pub found_is : entry_of digest entries ≡ Some e
  pub entry_is : device.entry s digest ≡ Some version
  pub names : Names e version
  pub seen : device.seen s now digest ≡ Some version

module _ (setup : Setup) (s : State) (now : ℕ) (digest : Digest) (sprig : SprigState) (stands : SprigStands setup (part_of setup digest) sprig s) where
  pub seen_none : seen_entry now (entry_of digest sprig.entries) ≡ None → device.seen s now digest ≡ None
  seen_none none = by (entry_of digest sprig.entries) none (stands.fits.entries.shown digest)
    where
      by : (o : Option Entry) → seen_entry now o ≡ None → Says setup (part_of setup digest) s digest o → if_live now (device.entry s digest) ≡ None
      by None is says = ap (if_live now) (says refl).top
      by (Some e) is says = ap (if_live now) says.1.top ∙ dead (is_live_entry now e) (is_live_put now says.1.version) (live_same now e says.1.version says.1.names) is
        where
          dead : (a b : Bool) → a ≡ b → cond a (Some e) None ≡ None → cond b (Some says.1.version) None ≡ None
          dead true b same none = absurd (cc)
          dead false true same none = absurd (cc)
          dead false false same none = refl

  pub seen_some : (e : Entry) → seen_entry now (entry_of digest sprig.entries) ≡ Some e → SeenIs s now digest sprig.entries e
  seen_some e some = by (entry_of digest sprig.entries) refl some (stands.fits.entries.shown digest)
    where
      by : (o : Option Entry) → entry_of digest sprig.entries ≡ o → seen_entry now o ≡ Some e → Says setup (part_of setup digest) s digest o → SeenIs s now digest sprig.entries e
      by None is shown says = absurd (cc)
      by (Some x) is shown says = live (is_live_entry now x) (is_live_put now says.1.version) refl (live_same now x says.1.version says.1.names) shown
        where
          live : (a b : Bool) → is_live_put now says.1.version ≡ b → a ≡ b → cond a (Some x) None ≡ Some e → SeenIs s now digest sprig.entries e
          live true true put same here =
              let one : x ≡ e = cc in
              subst (SeenIs s now digest sprig.entries) one (record {
                version = says.1.version;
                found_is = is;
                entry_is = says.1.top;
                names = says.1.names;
                seen = ap (if_live now) says.1.top
                    ∙ ap (λ (b : Bool). cond b (Some says.1.version) None) put;
              })
          live true false put same here = absurd (cc)
          live false b put same here = absurd (cc)

-- ---- what is expired

expired_not : (now : ℕ) (o : Option Entry) → expired_entry now o ≡ None → passes_test (is_expired_entry now) o ≡ false
expired_not now None is = refl
expired_not now (Some x) is = by (is_expired_entry now x) is
  where
    by : (b : Bool) → cond b (Some x) None ≡ None → b ≡ false
    by true here = absurd (cc)
    by false here = refl

-- an entry that is expired is there, and passes
record ExpiredIs (now : ℕ) (o : Option Entry) (e : Entry) : Type 0 where
  held : o ≡ Some e
  passes : passes_test (is_expired_entry now) o ≡ true

expired_so : (now : ℕ) (o : Option Entry) (e : Entry) → expired_entry now o ≡ Some e → ExpiredIs now o e
expired_so now None e is = absurd (cc)
expired_so now (Some x) e is = by (is_expired_entry now x) refl is
  where
    by : (b : Bool) → is_expired_entry now x ≡ b → cond b (Some x) None ≡ Some e → ExpiredIs now (Some x) e
    by true passes here = record { held = here; passes = passes }
    by false passes here = absurd (cc)

pub expired_held : (now : ℕ) (o : Option Entry) (e : Entry) → expired_entry now o ≡ Some e → o ≡ Some e
expired_held now o e is = (expired_so now o e is).held

-- what the state says of the digest
module _ (setup : Setup) (s : State) (now : ℕ) (digest : Digest) (sprig : SprigState) (stands : SprigStands setup (part_of setup digest) sprig s) where
  pub unexpired : expired_entry now (entry_of digest sprig.entries) ≡ None → device.entry_passes (is_expired_put now) (device.entry s digest) ≡ false
  unexpired none = expired_found setup (part_of setup digest) sprig s stands.fits.entries digest refl now ∙ expired_not now (entry_of digest sprig.entries) none

  pub expired_some : (e : Entry) → expired_entry now (entry_of digest sprig.entries) ≡ Some e → device.entry_passes (is_expired_put now) (device.entry s digest) ≡ true
  expired_some e some = expired_found setup (part_of setup digest) sprig s stands.fits.entries digest refl now ∙ (expired_so now (entry_of digest sprig.entries) e some).passes
