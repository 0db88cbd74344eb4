-- The state after a start holds its image.
use Rattle.std.proofs.Common.{◌≡◌, ℕ, List, [], ◌∷◌, refl, sym, ◌∙◌, ap, subst}
use Rattle.std.specs.Prelude.{Contains, IsTrue}
use Rattle.std.specs.List.{AllByRecursion}
use Rattle.law_lists.proofs.Each.{all_map, all_from}
use Rattle.law_lists.proofs.Members.{map_there, filter_there}
use Rattle.rec_format.specs.declared.version.Digest.{Digest}
use Rattle.rec_format.specs.declared.version.Version.{Version}
use Rattle.rec_format.specs.Places.{same_digest}
use Rattle.model_device.specs.Histories.{Pending}
use Rattle.model_device.specs.Book.{Setup, pending_of}
use Rattle.model_device.specs.Device.{State, history}
use Rattle.block_format.specs.Layout.{Body}
use Rattle.block_format.specs.Copies.{Copy, copies_of, copies_named}
use Rattle.law_start.specs.Start.{start_state}
use Rattle.law_start.specs.Sound.{IsSound}
use Rattle.law_start.specs.Holding.{begun_versions, flushed_versions, versions_in, Reflects}
use Rattle.law_start.proofs.ColdLogs.{as_writes, versions_of}
use Rattle.law_start.proofs.ColdVersions.{all_versions, each_contained}
use Rattle.law_start.proofs.ColdStart.{start_history}

-- flushed writes have begun, and are flushed
begun_of_writes : (p : Pending) (versions : List Version) → begun_versions p (as_writes versions) ≡ versions
begun_of_writes p [] = refl
begun_of_writes p (v ∷ versions) = ap (λ (l : List Version). v ∷ l) (begun_of_writes p versions)

flushed_of_writes : (p : Pending) (versions : List Version) → flushed_versions p (as_writes versions) ≡ versions
flushed_of_writes p [] = refl
flushed_of_writes p (v ∷ versions) = ap (λ (l : List Version). v ∷ l) (flushed_of_writes p versions)

-- the versions of a digest are those of its copies
each_in : (digest : Digest) (bodies : List Body) → AllByRecursion (Contains (versions_in digest bodies)) (versions_of digest (copies_of bodies))
each_in digest bodies =
    all_versions (Contains (versions_in digest bodies)) digest (copies_of bodies)
    (all_from (λ c. IsTrue (same_digest digest c.digest) → Contains (versions_in digest bodies) c.version) (copies_of bodies)
    (λ c there same. map_there (λ (d : Copy). d.version) (copies_named digest (copies_of bodies)) c (filter_there (λ (d : Copy). same_digest digest d.digest) (copies_of bodies) c same there)))

-- after a start from a sound image each copy is flushed
pub start_reflects : (setup : Setup) (image : List ℕ) (bodies : List Body) → IsSound setup image bodies → Reflects setup (start_state setup bodies) image bodies
start_reflects setup image bodies sound = record {
  shape = sound.shape;
  is_shape = sound.is_shape;
  readable = sound.readable;
  strays = sound.strays;
  begun = all_map (λ c. Contains (versions_of c.digest copies) c.version) (λ c. Contains (begun_versions pending (history s c.digest)) c.version) copies
      (λ c there. subst (λ (l : List Version). Contains l c.version) (sym (begun_is c.digest)) there) (each_contained copies sound.twins);
  flushed = λ digest. subst (AllByRecursion (Contains (versions_in digest bodies))) (sym (flushed_is digest)) (each_in digest bodies);
}
  where
    s : State
    s = start_state setup bodies

    copies : List Copy
    copies = copies_of bodies

    pending : Pending
    pending = pending_of s.book

    begun_is : (digest : Digest) → begun_versions pending (history s digest) ≡ versions_of digest copies
    begun_is digest = ap (begun_versions pending) (start_history setup bodies digest) ∙ begun_of_writes pending (versions_of digest copies)

    flushed_is : (digest : Digest) → flushed_versions pending (history s digest) ≡ versions_of digest copies
    flushed_is digest = ap (flushed_versions pending) (start_history setup bodies digest) ∙ flushed_of_writes pending (versions_of digest copies)
