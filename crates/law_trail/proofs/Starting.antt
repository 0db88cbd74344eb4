-- After a start each live copy is stored.
use Rattle.std.proofs.Common.{◌≡◌, ◌⊎◌, inl, inr, ℕ, ◌+◌, ◌≤◌, true, List, [], ◌∷◌, map, Option, Some, None, refl, sym, ap, subst, arith}
use Rattle.std.proofs.lemmas.Bool.{false≢true}
use Rattle.std.proofs.lemmas.List.Elements.{Contains-append_cases}
use Rattle.std.specs.Prelude.{Contains, IfSome, option_map}
use Rattle.std.specs.List.{AllByRecursion}
use Rattle.law_lists.proofs.Members.{cons_cases, first_there, rest_there, filter_from}
use Rattle.rec_format.specs.declared.version.Digest.{Digest}
use Rattle.rec_format.specs.declared.version.Version.{Version}
use Rattle.rec_format.specs.Places.{same_digest}
use Rattle.rec_format.specs.Versions.{version_units}
use Rattle.model_device.specs.Histories.{Item, write, dropped, rid, cleared, Pending, ends_well, top_of, last_write, without_numbers}
use Rattle.model_device.specs.Book.{Setup, Book, Live, cold_book, refreshed, live_of}
use Rattle.model_device.specs.Device.{State, history}
use Rattle.rec_format.proofs.Laws.{same_digest_is}
use Rattle.block_format.specs.Layout.{Body}
use Rattle.block_format.specs.Copies.{Copy, copies_from, copies_of, copies_named, latest, cold_copy, version_of}
use Rattle.law_start.specs.Sound.{NoTwins, IsSound}
use Rattle.law_start.specs.Start.{live_copy, cold_copies, greatest_number, start_state, Restarts}
use Rattle.law_start.proofs.Held.{IsNewest, latest_is}
use Rattle.law_start.proofs.ColdLogs.{as_writes, versions_of}
use Rattle.law_start.proofs.ColdVersions.{first_of, first_is_cold}
use Rattle.law_start.proofs.ColdStart.{start_history, start_orderly}
use Rattle.law_start.proofs.StartLive.{start_live}
use Rattle.law_trail.specs.Trail.{Records, StoredIn, Trail, stored, LeadsOn, IsTrailed, IsBooked}
use Rattle.law_trail.specs.Numbers.{HasNumbers}
use Rattle.law_trail.proofs.Books.{refreshed_booked}
use Rattle.law_trail.proofs.Writing.{takes_room}

-- ---- a copy is stored in its block

-- the copies of a body are of its block and its records
copy_of_body : (block unit : ℕ) (records : List (Digest × Version)) (c : Copy) → Contains (copies_from block unit records) c → (c.block ≡ block) × Contains records (c.digest, c.version)
copy_of_body block unit [] c there = absurd (omega (arith, there.1))
copy_of_body block unit (r ∷ records) c there = by (cons_cases d rest c there) (copy_of_body block (unit + version_units r.1) records c)
  where
    d : Copy
    d = record { digest = r.0; version = r.1; block = block; unit = unit }

    rest : List Copy
    rest = copies_from block (unit + version_units r.1) records

    by : (d ≡ c) ⊎ Contains rest c → (Contains rest c → (c.block ≡ block) × Contains records (c.digest, c.version)) → (c.block ≡ block) × Contains (r ∷ records) (c.digest, c.version)
    by (inl e) more = (sym (ap (λ (x : Copy). x.block) e), subst (λ (x : Copy). Contains (r ∷ records) (x.digest, x.version)) e (first_there r records))
    by (inr in_rest) more = let one = more in_rest in (one.0, rest_there r records (c.digest, c.version) one.1)

pub copy_stored : (bodies : List Body) (c : Copy) → Contains (copies_of bodies) c → StoredIn bodies c.block c.digest c.version
copy_stored [] c there = absurd (omega (arith, there.1))
copy_stored (b ∷ bodies) c there = by (Contains-append_cases (copies_from b.block 0 b.records) (copies_of bodies) c there) (copy_stored bodies c)
  where
    by : Contains (copies_from b.block 0 b.records) c ⊎ Contains (copies_of bodies) c → (Contains (copies_of bodies) c → StoredIn bodies c.block c.digest c.version)
        → StoredIn (b ∷ bodies) c.block c.digest c.version
    by (inl own) rest = let is = copy_of_body b.block 0 b.records c own in record { body = b; there = first_there b bodies; placed = sym is.0; has = is.1 }
    by (inr other) rest = let is = rest other in record { body = is.body; there = rest_there b bodies is.body is.there; placed = is.placed; has = is.has }

-- what a cold start finds of a digest is stored
found_stored : (bodies : List Body) (digest : Digest) (c : Copy) → cold_copy digest (copies_of bodies) ≡ Some c → StoredIn bodies c.block digest c.version
found_stored bodies digest c found = by (latest (copies_named digest (copies_of bodies))) found (latest_is (copies_named digest (copies_of bodies)))
  where
    by : (o : Option Copy) → o ≡ Some c → IfSome o (IsNewest (copies_named digest (copies_of bodies))) → StoredIn bodies c.block digest c.version
    by None e is = absurd (cc)
    by (Some x) e is =
        let same : x ≡ c = cc in
        let one = filter_from (λ (y : Copy). same_digest digest y.digest) (copies_of bodies) c (subst (Contains (copies_named digest (copies_of bodies))) same is.there) in
        subst (λ (d : Digest). StoredIn bodies c.block d c.version) (sym (same_digest_is digest c.digest one.1)) (copy_stored bodies c one.0)

-- ---- the start

pub units_taken : (copies : List Copy) → AllByRecursion (λ l. 1 ≤ l.units) (map live_copy copies)
units_taken [] = tt
units_taken (c ∷ copies) = (takes_room c.version, units_taken copies)

pub start_booked : (setup : Setup) (bodies : List Body) → IsBooked (start_state setup bodies).book
unfolding start_state cold_book
start_booked setup bodies = refreshed_booked setup (record {
  live = map live_copy (cold_copies (copies_of bodies));
  buffers = [];
  holds = [];
  free = [];
  queue = [];
  flushed_numbers = [];
  next_number = greatest_number bodies + 1;
}) tt (units_taken (cold_copies (copies_of bodies)))

-- a history that begins with what was found of the digest, or with no entry where nothing was
abbrev BeginsWith : Option Copy → List Item → Type 0
BeginsWith None items = top_of items ≡ None
BeginsWith (Some c) items = (numbers : List ℕ) × (older : List Item) × (items ≡ write c.version numbers ∷ older)

module _ (setup : Setup) (records : Records) (bodies : List Body) (digest : Digest) where
  abbrev book : Book
  book = (start_state setup bodies).book

  leads_found : (found : Option Copy) (items : List Item) → cold_copy digest (copies_of bodies) ≡ found → BeginsWith found items → LeadsOn book records bodies digest (option_map live_copy found) items
  unfolding start_state cold_book refreshed
  leads_found None items is begins = begins
  leads_found (Some c) items is begins = subst (Trail book records bodies digest c.block) (sym begins.2) (stored refl (found_stored bodies digest c is))

  pub leads_at_start : (items : List Item) → BeginsWith (cold_copy digest (copies_of bodies)) items → LeadsOn book records bodies digest (live_of digest book.live) items
  leads_at_start items begins =
      subst (λ (o : Option Live). LeadsOn book records bodies digest o items) (sym (start_live setup bodies digest)) (leads_found (cold_copy digest (copies_of bodies)) items refl begins)

begins_cold : (versions : List Version) (found : Option Copy) → first_of versions ≡ version_of found → BeginsWith found (as_writes versions)
begins_cold [] None is = refl
begins_cold [] (Some c) is = absurd (cc)
begins_cold (v ∷ versions) None is = absurd (cc)
begins_cold (v ∷ versions) (Some c) is = let same : v ≡ c.version = cc in ([], as_writes versions, ap (λ (w : Version). write w [] ∷ as_writes versions) same)

-- After a start from a sound image the trail of each digest is its copy alone.
pub start_trailed : (setup : Setup) (records : Records) (bodies : List Body) → NoTwins (copies_of bodies) → IsTrailed (start_state setup bodies) records bodies
start_trailed setup records bodies twins digest =
    leads_at_start setup records bodies digest (history (start_state setup bodies) digest)
    (subst (BeginsWith (cold_copy digest (copies_of bodies))) (sym (start_history setup bodies digest))
    (begins_cold (versions_of digest (copies_of bodies)) (cold_copy digest (copies_of bodies)) (first_is_cold digest (copies_of bodies) twins)))

-- ---- a restart within a run

begins_kept : (pending : Pending) (kept : List Item) (found : Option Copy) → ends_well pending kept ≡ true → version_of found ≡ last_write kept → BeginsWith found (without_numbers kept)
begins_kept pending [] None well is = refl
begins_kept pending [] (Some c) well is = absurd (cc)
begins_kept pending (write v numbers ∷ older) None well is = absurd (cc)
begins_kept pending (write v numbers ∷ older) (Some c) well is =
    let same : v ≡ c.version = cc in ([], without_numbers older, ap (λ (w : Version). write w [] ∷ without_numbers older) same)
begins_kept pending (dropped ∷ older) found well is = absurd (false≢true well)
begins_kept pending (rid ∷ older) found well is = absurd (false≢true well)
begins_kept pending (cleared ∷ older) found well is = absurd (false≢true well)

pub restart_booked : (setup : Setup) (s : State) (image : List ℕ) (new : State) → Restarts setup s image new → IsBooked new.book
restart_booked setup s image new r = subst IsBooked (sym r.book) (start_booked setup r.bodies)

pub restart_trailed : (setup : Setup) (s : State) (image : List ℕ) (new : State) (records : Records) → (r : Restarts setup s image new) → IsTrailed new records r.bodies
restart_trailed setup s image new records r digest =
    let k = r.kept digest in
    subst (λ (b : Book). LeadsOn b records r.bodies digest (live_of digest b.live) (history new digest)) (sym r.book)
    (leads_at_start setup records r.bodies digest (history new digest)
    (subst (BeginsWith (cold_copy digest (copies_of r.bodies))) (sym k.2)
    (begins_kept _ k.0 (cold_copy digest (copies_of r.bodies)) k.1.keeps.end k.1.shown)))

-- ---- numbers

pub start_numbered : (setup : Setup) (image : List ℕ) (bodies : List Body) → IsSound setup image bodies → HasNumbers (start_state setup bodies)
unfolding start_state cold_book refreshed
start_numbered setup image bodies sound = record {
  counted = record { rising = tt; below = tt };
  below = λ digest. (start_orderly setup image bodies sound digest).numbers;
}
