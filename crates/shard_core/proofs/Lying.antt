-- Which records lie in a block: the index says it as the state does.
use Rattle.std.proofs.Common.{◌≡◌, ◌⊎◌, inl, inr, ℕ, ◌<◌, ◌≤◌, Bool, true, false, cond, List, [], ◌∷◌, length, Greater, refl, sym, ◌∙◌, ap, subst, arith}
use Rattle.std.specs.Prelude.{Option, Some, None, ◌==◌, Contains, option_map, slice_get, filter, find}
use Rattle.std.specs.List.{AllByRecursion}
use Rattle.std.specs.Ordering.{is_eq}
use Rattle.std.proofs.lemmas.Bool.{both_ways, cases_lt, cond-true, cond-false}
use Rattle.law_lists.proofs.Each.{all_at, all_from}
use Rattle.law_lists.proofs.Finding.{found_is, find_there}
use Rattle.law_lists.proofs.Places.{place_there}
use Rattle.rec_format.specs.declared.version.Digest.{Digest}
use Rattle.rec_format.specs.declared.entry.Entry.{Entry}
use Rattle.rec_format.specs.declared.version.Version.{Version}
use Rattle.rec_format.specs.Places.{digest_cmp, same_digest, device_number, with_digest, digest_before}
use Rattle.rec_format.proofs.Laws.{same_digest_is, same_digest_refl}
use Rattle.disk_model.specs.Disk.{DiskView}
use Rattle.model_device.specs.Book.{Setup, Live, use_of, live_of, live_of_entry}
use Rattle.model_device.specs.Histories.{top_of}
use Rattle.model_device.specs.Device.{State, Log, entry, history_of, digests_of, part_of}
use Rattle.model_device.specs.Legal.{is_in_block}
use Rattle.sprig_tree.specs.Entries.{IsInDigestOrder, entry_of, entry_after}
use Rattle.sprig_tree.proofs.Order.{order_first, order_rest}
use Rattle.sprig_tree.specs.State.{SprigState}
use Rattle.law_sprig.proofs.Counting.{part_exists}
use Rattle.law_sprig.proofs.Looking.{place_is}
use Rattle.block_shelf.specs.View.{IsShelf}
use Rattle.shard_core.specs.Sprigs.{entry_in, held}
use Rattle.shard_core.specs.View.{ShardView, setup_of}
use Rattle.shard_core.specs.Stands.{Agrees, IsWhole}
use Rattle.shard_core.specs.Vacating.{LiesFrom, HasParts, NoneLies, lies_in}
use Rattle.shard_core.proofs.Emptied.{none_used}

-- ---- digests of the device

module _ (P : Digest → Type 0) where
  with_both : (d : Digest) (ds : List Digest) → AllByRecursion P (with_digest d ds) → P d × AllByRecursion P ds
  with_both d [] all = (all.0, tt)
  with_both d (e ∷ ds) all = by (same_digest d e) refl (digest_before d e) all (with_both d ds)
    where
      by : (same : Bool) → same_digest d e ≡ same → (before : Bool) → AllByRecursion P (cond same (e ∷ ds) (cond before (d ∷ e ∷ ds) (e ∷ with_digest d ds)))
          → (AllByRecursion P (with_digest d ds) → P d × AllByRecursion P ds) → P d × AllByRecursion P (e ∷ ds)
      by true is before all rest = (subst P (sym (same_digest_is d e is)) all.0, all)
      by false is true all rest = (all.0, all.1)
      by false is false all rest = let more = rest all.1 in (more.0, (all.0, more.1))

  -- what holds of the digests of a log holds of one that has an entry
  logged : (d : Digest) (v : Version) (log : Log) → AllByRecursion P (digests_of log) → top_of (history_of d log) ≡ Some v → P d
  logged d v [] all top = absurd (cc)
  logged d v (e ∷ log) all top = let two = with_both e.0 (digests_of log) all in by (same_digest d e.0) refl top (logged d v log two.1) two.0
    where
      by : (same : Bool) → same_digest d e.0 ≡ same → top_of (cond same (e.1 ∷ history_of d log) (history_of d log)) ≡ Some v → (top_of (history_of d log) ≡ Some v → P d) → P e.0 → P d
      by true is found rest here = subst P (sym (same_digest_is d e.0 is)) here
      by false is found rest here = rest found

-- ---- what lies in a block

pub same_place : (block : ℕ) (o : Option Entry) → is_in_block block (option_map live_of_entry o) ≡ lies_in block o
same_place block None = refl
same_place block (Some e) = refl

module _ {D : Type 0} (shard : ShardView D) (s : State) (agrees : Agrees shard s) (block : ℕ) where
  abbrev setup : Setup
  setup = setup_of shard

  at_part : (digest : Digest) (sprig : SprigState) → slice_get shard.sprigs (part_of setup digest) ≡ Some sprig
      → is_in_block block (live_of digest s.book.live) ≡ lies_in block (held setup digest shard.sprigs)
  at_part digest sprig there =
      ap (is_in_block block) (place_is setup (part_of setup digest) sprig s (agrees.sprigs.each (part_of setup digest) sprig there).entries digest refl)
      ∙ same_place block (entry_of digest sprig.entries) ∙ ap (λ (o : Option SprigState). lies_in block (entry_in digest o)) (sym there)

  -- what the index says lies in the block does
  pub lies_live : (digest : Digest) → lies_in block (held setup digest shard.sprigs) ≡ true → is_in_block block (live_of digest s.book.live) ≡ true
  lies_live digest lies = by (slice_get shard.sprigs (part_of setup digest)) refl
    where
      by : (o : Option SprigState) → slice_get shard.sprigs (part_of setup digest) ≡ o → is_in_block block (live_of digest s.book.live) ≡ true
      by None none = absurd (both_ways (lies_in block (held setup digest shard.sprigs)) (ap (λ (o : Option SprigState). lies_in block (entry_in digest o)) none) lies)
      by (Some sprig) there = at_part digest sprig there ∙ lies

  -- what has a live copy is the device's
  live_own : (digest : Digest) (l : Live) → live_of digest s.book.live ≡ Some l → device_number shard.shelf.geometry.devices digest ≡ shard.shelf.geometry.device
  live_own digest l live =
      let at = found_is (Contains s.book.live) (λ m. same_digest digest m.digest) s.book.live l (all_from (Contains s.book.live) s.book.live (λ m there. there)) live in
      let of = agrees.shelf.stands.entries l at.0 in
      logged (λ e. device_number shard.shelf.geometry.devices e ≡ shard.shelf.geometry.device) digest of.version s.log agrees.sprigs.own
      (ap (entry s) (same_digest_is digest l.digest at.1) ∙ of.entry_is)

  pub lies_own : (digest : Digest) → is_in_block block (live_of digest s.book.live) ≡ true → device_number shard.shelf.geometry.devices digest ≡ shard.shelf.geometry.device
  lies_own digest is = by (live_of digest s.book.live) refl is
    where
      by : (o : Option Live) → live_of digest s.book.live ≡ o → is_in_block block o ≡ true → device_number shard.shelf.geometry.devices digest ≡ shard.shelf.geometry.device
      by None live is = absurd cc
      by (Some l) live is = live_own digest l live

  -- and what lies in it the index says
  live_lies : (digest : Digest) → part_of setup digest < length shard.sprigs → is_in_block block (live_of digest s.book.live) ≡ true → lies_in block (held setup digest shard.sprigs) ≡ true
  live_lies digest below is = let there = place_there shard.sprigs (part_of setup digest) below in sym (at_part digest there.0 there.1) ∙ is

  module _ (all : HasParts shard) where
    lies_later : (part next : ℕ) → NoneLies shard block part next → (digest : Digest) → part ≤ part_of setup digest
        → is_in_block block (live_of digest s.book.live) ≡ true → next ≤ part_of setup digest
    lies_later part next none digest up is = by (cases_lt (part_of setup digest) next)
      where
        by : (part_of setup digest < next) ⊎ (next ≤ part_of setup digest) → next ≤ part_of setup digest
        by (inl below) =
            absurd (both_ways (lies_in block (held setup digest shard.sprigs)) (none digest up below) (live_lies digest (all digest (lies_own digest is)) is))
        by (inr later) = later

    -- behind the last part nothing lies in it
    pub none_left : LiesFrom setup (length shard.sprigs) block s.book → use_of s.book block ≡ 0
    none_left lie = none_used setup s.book block agrees.shelf.stands.listed
        (λ digest is. let below = all digest (lies_own digest is) in let up = lie.from digest is in absurd (omega (arith, below, up)))

-- A later part, where nothing lies in the block of those up to it.
pub later_part : {D : Type 0} (shard : ShardView D) (s : State) → Agrees shard s → HasParts shard → (shape : Setup) → shape ≡ setup_of shard → (block part next : ℕ) → NoneLies shard block part next
    → (digest : Digest) → part ≤ part_of shape digest → is_in_block block (live_of digest s.book.live) ≡ true → next ≤ part_of shape digest
later_part shard s agrees all shape same block part next none digest up is =
    subst (λ (x : Setup). next ≤ part_of x digest) (sym same)
    (lies_later shard s agrees block all part next none digest (subst (λ (x : Setup). part ≤ part_of x digest) same up) is)

-- each digest of the device has its part
pub has_parts : {D : Type 0} (view : D → DiskView) (shard : ShardView D) → IsShelf view shard.shelf → IsWhole shard → HasParts shard
has_parts view shard is whole digest own =
    let device = is.geometry.device in
    let sprigs = whole.settings.sprigs in
    subst (λ (n : ℕ). part_of (setup_of shard) digest < n) (sym whole.stands.1.sprigs.count) (part_exists (setup_of shard) digest (omega (arith, device)) (omega (arith, sprigs)) own)

-- ---- one sprig

-- Of a list in digest order in which an entry lies in the block that entry is its digest's.
module _ (block : ℕ) where
  abbrev pub here : Entry → Bool
  here e = e.block == block

  -- where no entry lies in the block none of a digest does
  pub none_here : (digest : Digest) (es : List Entry) → filter here es ≡ [] → lies_in block (entry_of digest es) ≡ false
  none_here digest [] none = refl
  none_here digest (e ∷ es) none = by (here e) refl (same_digest digest e.digest) none (none_here digest es)
    where
      by : (b : Bool) → here e ≡ b → (t : Bool) → cond b (e ∷ filter here es) (filter here es) ≡ [] → (filter here es ≡ [] → lies_in block (entry_of digest es) ≡ false)
          → lies_in block (cond t (Some e) (entry_of digest es)) ≡ false
      by true is t some rest = absurd cc
      by false is true nothing rest = is
      by false is false nothing rest = rest nothing

-- an entry that is found in digest order is its digest's
pub own_found : (test : Entry → Bool) (es : List Entry) (e : Entry) → IsInDigestOrder es → find test es ≡ Some e → entry_of e.digest es ≡ Some e
own_found test [] e order found = absurd cc
own_found test (x ∷ xs) e order found = by (test x) found (own_found test xs e (order_rest x xs order))
  where
    by : (b : Bool) → cond b (Some x) (find test xs) ≡ Some e → (find test xs ≡ Some e → entry_of e.digest xs ≡ Some e) → entry_of e.digest (x ∷ xs) ≡ Some e
    by true here rest =
        let one : x ≡ e = cc in
        subst (λ (y : Entry). entry_of y.digest (x ∷ xs) ≡ Some y) one (cond-true (same_digest x.digest x.digest) (Some x) (entry_of x.digest xs) (same_digest_refl x.digest))
    by false more rest =
        let above = all_at (λ (y : Entry). digest_cmp y.digest x.digest ≡ Greater) xs e (order_first x xs order) (find_there test xs e more) in
        cond-false (same_digest e.digest x.digest) (Some x) (entry_of e.digest xs) (ap is_eq above) ∙ rest more

pub own_after : (last : Option Digest) (es : List Entry) (e : Entry) → IsInDigestOrder es → entry_after last es ≡ Some e → entry_of e.digest es ≡ Some e
own_after None es e order found = own_found (λ x. true) es e order found
own_after (Some d) es e order found = own_found (λ x. digest_before d x.digest) es e order found
