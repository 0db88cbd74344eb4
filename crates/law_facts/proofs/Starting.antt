-- The state after a start has the facts of the copies that were read.
use Rattle.std.proofs.Common.{◌≡◌, ◌⊎◌, inl, inr, ℕ, ◌<◌, Bool, true, false, not, List, [], ◌∷◌, refl, sym, ◌∙◌, ap, subst, arith}
use Rattle.std.specs.Prelude.{Contains, IsTrue}
use Rattle.std.specs.List.{range_with_len}
use Rattle.std.proofs.lemmas.Bool.{both_ways}
use Rattle.law_lists.proofs.Each.{all_map, all_at}
use Rattle.law_lists.proofs.Members.{cons_cases, first_there}
use Rattle.law_lists.proofs.Ranges.{range_within}
use Rattle.rec_format.specs.declared.version.Digest.{Digest}
use Rattle.rec_format.specs.declared.version.Version.{Version}
use Rattle.rec_format.specs.Places.{same_digest, device_number}
use Rattle.rec_format.specs.Versions.{is_later, is_tombstone}
use Rattle.model_device.specs.Histories.{Item, write, dropped, rid, cleared, is_covered, writes_of}
use Rattle.model_device.specs.Book.{Setup}
use Rattle.model_device.specs.Device.{history}
use Rattle.rec_format.proofs.Laws.{same_digest_is}
use Rattle.block_format.specs.Layout.{Body}
use Rattle.block_format.specs.Copies.{copies_of}
use Rattle.law_start.specs.Sound.{IsSound}
use Rattle.law_start.specs.Start.{start_state}
use Rattle.law_start.specs.Orderly.{AreWrites, IsOrderlyHistory}
use Rattle.law_start.proofs.ColdLogs.{as_writes, versions_of}
use Rattle.law_start.proofs.ColdStart.{start_history, start_orderly}
use Rattle.law_start.proofs.ColdVersions.{all_versions, each_contained}
use Rattle.law_start.proofs.Growing.{bare_at}
use Rattle.law_start.proofs.Places.{copy_stands}
use Rattle.law_facts.specs.Guarded.{standing_writes, IsGuarded}
use Rattle.law_facts.specs.Facts.{somewhere, HasFacts, copies_among}

-- ---- a history of writes alone

all_standing : (items : List Item) → AreWrites items → standing_writes items ≡ writes_of items
all_standing [] writes = refl
all_standing (write v numbers ∷ older) writes = ap (λ (l : List Version). v ∷ l) (all_standing older writes)
all_standing (dropped ∷ older) writes = absurd writes
all_standing (rid ∷ older) writes = absurd writes
all_standing (cleared ∷ older) writes = absurd writes

-- behind a tombstone that is needed the newest write is covered
newest_covered : (limit : ℕ) (items : List Item) (t a : Version) → IsOrderlyHistory limit items → Contains (writes_of items) t → Contains (writes_of items) a
    → is_tombstone t ≡ true → is_later t a ≡ true
    → is_covered items ≡ true
newest_covered limit [] t a h in_t in_a one later = absurd (omega (arith, in_t.1))
newest_covered limit (write u numbers ∷ older) t a h in_t in_a one later = by (is_tombstone u) refl (cons_cases u (writes_of older) t in_t)
  where
    by : (b : Bool) → is_tombstone u ≡ b → (u ≡ t) ⊎ Contains (writes_of older) t → u.cover ≡ true
    by true is there = ap (λ (w : Version). w.cover) (h.versions.0.tombstone is)
    by false is (inl same) = absurd (both_ways (is_tombstone u) is (ap is_tombstone same ∙ one))
    by false is (inr old) =
        bare_at (u ∷ writes_of older) a t u h.covered in_a in_t (first_there u (writes_of older))
        (record { tombstone = one; is_a_put = ap not is; before = later; after = all_at (λ w. is_later u w ≡ true) (writes_of older) t h.falling.0 old })
newest_covered limit (dropped ∷ older) t a h in_t in_a one later = absurd h.writes
newest_covered limit (rid ∷ older) t a h in_t in_a one later = absurd h.writes
newest_covered limit (cleared ∷ older) t a h in_t in_a one later = absurd h.writes

-- an orderly one guards whatever of its writes is possible
pub orderly_guarded : (limit : ℕ) (items : List Item) (P : Version → Type 0) → IsOrderlyHistory limit items → ((v : Version) → P v → Contains (writes_of items) v) → IsGuarded items P
orderly_guarded limit items P h written = record {
  falling = h.falling;
  written = written;
  standing = λ t n. subst (λ (l : List Version). Contains l t) (sym (all_standing items h.writes)) n.written;
  covered = λ t n. newest_covered limit items t n.older h n.written (written n.older n.may_come) n.is_one n.later;
  puts = λ t p n may put later.
      bare_at (writes_of items) n.older t p h.covered (written n.older n.may_come) n.written (written p may) (record { tombstone = n.is_one; is_a_put = put; before = n.later; after = later });
}

-- ---- the copies that were read

all_writes : (versions : List Version) → writes_of (as_writes versions) ≡ versions
all_writes [] = refl
all_writes (v ∷ versions) = ap (λ (l : List Version). v ∷ l) (all_writes versions)

module _ (setup : Setup) (image : List ℕ) (bodies : List Body) (sound : IsSound setup image bodies) where
  -- each lies in a block of the device
  pub copies_within : (block : ℕ) (digest : Digest) (v : Version) → copies_among bodies block digest v → block < setup.blocks
  copies_within block digest v there =
      let stands = copy_stands sound.shape image (range_with_len 0 sound.shape.blocks) bodies sound.readable.blocks there.0 there.1 in
      let below = range_within sound.shape.blocks there.0.block stands.listed in
      omega (arith, below, there.2, sound.is_shape.blocks)

  start_writes : (digest : Digest) → writes_of (history (start_state setup bodies) digest) ≡ versions_of digest (copies_of bodies)
  start_writes digest = ap writes_of (start_history setup bodies digest) ∙ all_writes (versions_of digest (copies_of bodies))

  pub read_written : (digest : Digest) (v : Version) → somewhere (copies_among bodies) digest v → Contains (writes_of (history (start_state setup bodies) digest)) v
  read_written digest v there =
      let c = there.1.0 in
      let mine : Contains (versions_of c.digest (copies_of bodies)) c.version =
      all_at (λ x. Contains (versions_of x.digest (copies_of bodies)) x.version) (copies_of bodies) c (each_contained (copies_of bodies) sound.twins) there.1.1 in
      subst (λ (w : Version). Contains (writes_of (history (start_state setup bodies) digest)) w) there.1.4
      (subst (λ (l : List Version). Contains l c.version) (sym (start_writes digest)) (subst (λ (d : Digest). Contains (versions_of d (copies_of bodies)) c.version) there.1.3 mine))

  -- so their digests belong to it
  read_own : (digest : Digest) (v : Version) → Contains (writes_of (history (start_state setup bodies) digest)) v → device_number setup.devices digest ≡ setup.device
  read_own digest v there =
      all_at (λ w. device_number setup.devices digest ≡ setup.device) (versions_of digest (copies_of bodies)) v
      (all_versions (λ w. device_number setup.devices digest ≡ setup.device) digest (copies_of bodies)
      (all_map (λ c. device_number setup.devices c.digest ≡ setup.device) (λ c. IsTrue (same_digest digest c.digest) → device_number setup.devices digest ≡ setup.device) (copies_of bodies)
      (λ c own same. ap (λ (d : Digest). device_number setup.devices d) (same_digest_is digest c.digest same) ∙ own) sound.strays))
      (subst (λ (l : List Version). Contains l v) (start_writes digest) there)

  -- the facts hold
  pub start_facts : HasFacts setup (start_state setup bodies) (copies_among bodies)
  unfolding start_state
  start_facts = record {
    guarded = λ digest. orderly_guarded (start_state setup bodies).book.next_number (history (start_state setup bodies) digest) (somewhere (copies_among bodies) digest)
        (start_orderly setup image bodies sound digest) (read_written digest);
    own = read_own;
    blocks = copies_within;
    marks = λ block digest v marked o. absurd (omega (arith, marked.1));
    turn = tt;
  }
