-- Two images of a small device: a fresh one, and one with a record. Both are sound.
use Rattle.std.proofs.Common.{◌≡◌, inl, inr, ℕ, Bool, true, false, List, [], ◌∷◌, ◌++◌, replicate, length, refl, lit≤, lit<}
use Rattle.rec_format.specs.declared.version.Digest.{Digest}
use Rattle.rec_format.specs.declared.version.Version.{Version}
use Rattle.rec_format.specs.Versions.{a_put}
use Rattle.model_device.specs.Book.{Setup}
use Rattle.block_format.specs.declared.geometry.Geometry.{Geometry}
use Rattle.std.proofs.Common.{cond, ⊎_elim, Some, None, sym, ap, ◌∙◌}
use Rattle.model_device.proofs.Laws.{Keeps-choices}
use Rattle.rec_format.specs.Places.{same_digest}
use Rattle.rec_format.specs.RecordText.{CanBeRecorded}
use Rattle.model_device.specs.Histories.{Item, write, Keeps, last_write}
use Rattle.model_device.specs.Book.{refreshed, dropped_live, placed, with_flushed, cold_book, client}
use Rattle.model_device.specs.Device.{State}
use Rattle.model_device.specs.Steps.{wrote, sealed_stream, gate_begun, flushed_buffer, after_step, after_steps}
use Rattle.block_format.specs.Layout.{IsGeometry, header_text, open_sector, Body, body_text, body_bytes, IsBody}
use Rattle.block_format.specs.Copies.{IsReadable, copies_of, cold, latest, version_of}
use Rattle.law_start.specs.Start.{start_state}
use Rattle.law_start.specs.Surviving.{Survives}
use Rattle.law_start.specs.Sound.{IsSound}

abbrev small : Geometry
small = record { block_size = 16384; blocks = 8; device = 0; devices = 1 }

is_geometry : IsGeometry small
is_geometry = record { block_size = (14, lit≤ tt, lit≤ tt, refl); blocks = (lit≤ tt, lit≤ tt); device = lit< tt; devices = lit≤ tt }

abbrev setup : Setup
setup = record { capacity = 766; blocks = 8; device = 0; devices = 1; sprigs = 16; lwm = 0; pending_limit = 16; cache = 0; commit = false; raid_age = 86400 }

abbrev fresh : List ℕ
fresh = header_text small ++ replicate 131072 0

fresh_readable : IsReadable fresh small []
fresh_readable = record {
  header = record { geometry = is_geometry; text = refl };
  size = lit≤ tt;
  blocks = inl (λ e. cc, inl (λ e. cc, inl (λ e. cc, inl (λ e. cc, inl (λ e. cc, inl (λ e. cc, inl (λ e. cc, inl (λ e. cc, refl))))))));
}

fresh_sound : IsSound setup fresh []
fresh_sound = record {
  shape = small;
  is_shape = record { capacity = refl; blocks = refl; device = refl; devices = refl };
  readable = fresh_readable;
  twins = tt;
  puts = tt;
  strays = tt;
}

-- ---- one record, in block 0

abbrev d1 : Digest
d1 = record { 0 = 0 ∷ 1 ∷ 2 ∷ 3 ∷ 4 ∷ 5 ∷ 6 ∷ 7 ∷ 8 ∷ 9 ∷ 10 ∷ 11 ∷ 12 ∷ 13 ∷ 14 ∷ 15 ∷ 16 ∷ 17 ∷ 18 ∷ 19 ∷ [] }

abbrev v1 : Version
v1 = a_put (record { lut = 1000; gen_ = 1 }) 0 false (170 ∷ [])

abbrev body : Body
body = record { number = 1; block = 0; records = (d1, v1) ∷ [] }

-- the header, the open block and seven closed ones
abbrev written : List ℕ
written = header_text small ++ open_sector ++ body_text body ++ replicate 12192 0 ++ replicate 114688 0

sizes : length written ≡ 135168
sizes = refl

can_record : CanBeRecorded d1 v1
can_record = record {
  named = record {
    size = refl;
    bytes = (
      lit< tt,
      (
        lit< tt,
        (
          lit< tt,
          (
            lit< tt,
            (
              lit< tt,
              (
                lit< tt,
                (lit< tt, (lit< tt, (lit< tt, (lit< tt, (lit< tt, (lit< tt, (lit< tt, (lit< tt, (lit< tt, (lit< tt, (lit< tt, (lit< tt, (lit< tt, (lit< tt, tt)))))))))))))),
              ),
            ),
          ),
        ),
      ),
    );
  };
  version = record { tombstone = λ h. cc; time = (lit≤ tt, lit≤ tt); generation = (lit≤ tt, lit< tt); void = lit< tt };
  payload = (lit< tt, tt);
  size = lit< tt;
}

is_body : IsBody 766 (body_bytes small 0 written) body
is_body = record { number = lit≤ tt; count = lit< tt; units = lit≤ tt; records = (can_record, tt); behind = replicate 12192 0; text = refl }

written_readable : IsReadable written small (body ∷ [])
written_readable = record {
  header = record { geometry = is_geometry; text = refl };
  size = lit≤ tt;
  blocks = inr (
    refl,
    body,
    [],
    is_body,
    refl,
    refl,
    inl (λ e. cc, inl (λ e. cc, inl (λ e. cc, inl (λ e. cc, inl (λ e. cc, inl (λ e. cc, inl (λ e. cc, refl))))))),
  );
}

written_sound : IsSound setup written (body ∷ [])
written_sound = record {
  shape = small;
  is_shape = record { capacity = refl; blocks = refl; device = refl; devices = refl };
  readable = written_readable;
  twins = ((λ h e. refl, tt), tt);
  puts = (((λ h. cc, tt), tt), tt);
  strays = (refl, tt);
}

-- the state after this put was written to buffer 1, and that buffer flushed
abbrev flushed_state : State
flushed_state = after_steps setup (wrote d1 v1 ∷ sealed_stream client ∷ gate_begun 1 ∷ flushed_buffer 1 ∷ []) (start_state setup [])

kept_by : (b : Bool) → (kept : List Item) × Keeps [] (cond b (write v1 (1 ∷ []) ∷ []) []) kept
    × (version_of (latest (cond b ((record { digest = d1; version = v1; block = 0; unit = 0 }) ∷ []) [])) ≡ last_write kept)
kept_by true = (write v1 (1 ∷ []) ∷ [], record { lost = []; parts = refl; end = refl; durable = λ h. refl; tombstones = refl }, refl)
kept_by false = ([], record { lost = []; parts = refl; end = refl; durable = λ h. refl; tombstones = refl }, refl)

-- the image with the record survives that state
survives : Survives setup flushed_state written
unfolding refreshed dropped_live placed with_flushed cold_book after_step start_state
survives = record {
  bodies = body ∷ [];
  sound = written_sound;
  written = ((0, lit< tt, refl), tt);
  kept = λ digest. let k = kept_by (same_digest digest d1) in (k.0, record { keeps = k.1; shown = k.2 });
}

-- a fresh image doesn't: the put was flushed, and nothing was removed since
not_fresh : (s : Survives setup flushed_state fresh) → s.bodies ≡ [] → ⊥
unfolding refreshed dropped_live placed with_flushed cold_book after_step start_state
not_fresh s e =
    let k = s.kept d1 in
    let shown : None ≡ last_write k.0 = ap (λ (bodies : List Body). cold d1 (copies_of bodies)) (sym e) ∙ k.1.shown in
    ⊎_elim (λ (is : k.0 ≡ write v1 (1 ∷ []) ∷ []). let clash : None ≡ Some v1 = shown ∙ ap last_write is in cc) (λ n. n)
    (Keeps-choices [] (write v1 (1 ∷ []) ∷ []) k.0 k.1.keeps)
