-- The tally takes in the copies of all bodies, block after block.
use Rattle.std.proofs.Common.{◌≡◌, inl, inr, ℕ, suc, ◌+◌, ◌-◌, ◌<◌, ◌≤◌, true, false, List, [], ◌∷◌, ◌++◌, length, Some, None, refl, sym, ◌∙◌, ap, subst, arith, append_assoc}
use Rattle.std.specs.Prelude.{Contains, slice_get, option_map, Result, Ok, Err, OnOk, IfErr, MatchResult}
use Rattle.std.specs.List.{range_with_len}
use Rattle.std.specs.Map.{lookup}
use Rattle.std.specs.BTreeMap.{BTreeMap, get, is_at}
use Rattle.std.proofs.lemmas.List.{append-nil}
use Rattle.law_start.proofs.Places.{copy_stands}
use Rattle.rec_format.specs.Versions.{version_units, block_capacity}
use Rattle.rec_format.specs.declared.version.Version.{Version}
use Rattle.block_format.specs.declared.geometry.Geometry.{Geometry}
use Rattle.block_format.specs.declared.geometry.Gate.{Gate}
use Rattle.block_format.specs.declared.geometry.Gate.TheVariants.{Set}
use Rattle.block_format.specs.Layout.{Body, IsBody, IsClosed, gate_sector, body_bytes}
use Rattle.block_format.specs.Readings.{HasNoBody}
use Rattle.block_format.specs.Copies.{Copy, HasBodies, copies_from, copies_of}
use Rattle.block_shelf.proofs.CopyTexts.{copy_in_block}
use Rattle.cold_scan.specs.declared.header.StartCause.{StartCause}
use Rattle.cold_scan.specs.declared.header.StartCause.TheVariants as why
use Rattle.cold_scan.specs.Starting.{IsByBytes}
use Rattle.cold_scan.specs.Found.{is_set, AreGates}
use Rattle.cold_scan.proofs.GateLaws.{gate_there, gate_set, told_shut}
use Rattle.cold_scan.proofs.KeptCopies.{copies_more}
use Rattle.sound_scan.specs.declared.tally.Stamped.{Stamped}
use Rattle.sound_scan.specs.declared.tally.Past.{Past}
use Rattle.sound_scan.specs.declared.tally.Tally.{Tally}
use Rattle.sound_scan.specs.Least.{IsLeast}
use Rattle.sound_scan.specs.Tallied.{stamped_cmp, is_stray_in, has_twins_in, Stands, AreOnDevice, IsTally, TakesBody, TakesBlock, IsStop, IsOwn}
use Rattle.sound_scan.proofs.InBodies.{one_capacity}

-- ---- nothing yet

no_entry : (m : BTreeMap Stamped Past) (name : Stamped) (known : Past) → m.entries ≡ [] → get stamped_cmp m name ≡ Some known → ⊥
no_entry m name known empty found = let none = ap (λ (es : List (Stamped × Past)). lookup (is_at (stamped_cmp name)) es) empty in let clash : None ≡ Some known = sym none ∙ found in cc

pub none_known : (g : Geometry) (m : BTreeMap Stamped Past) → m.entries ≡ [] → AreOnDevice g m
none_known g m empty name known found = absurd (no_entry m name known empty found)

pub none_tallied : (g : Geometry) (bytes : List ℕ) (tally : Tally) → tally.past.entries ≡ [] → tally.stray ≡ None → tally.twins ≡ None → IsTally g bytes [] tally
none_tallied g bytes tally empty stray twins = record {
  past = record {
    from = λ name known found. absurd (no_entry tally.past name known empty found);
    each = λ c there. absurd (omega (arith, there.1));
  };
  stray = subst (IsLeast (is_stray_in g [])) (sym stray) (λ d. refl);
  twins = subst (IsLeast (has_twins_in [])) (sym twins) (λ d. refl);
}

-- ---- block after block

-- a record takes at least three units
three_units : (v : Version) → 3 ≤ version_units v
three_units v = omega arith

-- the record of each copy stands at its place
stand_all : (g : Geometry) (bytes : List ℕ) (blocks : List ℕ) (bodies : List Body) → HasBodies g bytes blocks bodies → (c : Copy) → Contains (copies_of bodies) c → Stands g bytes c
stand_all g bytes blocks bodies has c there =
    let stands = copy_stands g bytes blocks bodies has c there in
    copy_in_block g (record { block = c.block; unit = c.unit; units = version_units c.version }) bytes c.digest c.version stands.within refl (three_units c.version) stands.there

-- Of these bodies those of the blocks so far were taken in, and the others are those of the blocks behind.
pub record Reaches (g : Geometry) (bytes : List ℕ) (bodies : List Body) (k : ℕ) (tally : Tally) : Type 0 where
  pub front : List Body
  pub behind : List Body
  pub parts : bodies ≡ front ++ behind
  pub has : HasBodies g bytes (range_with_len k (g.blocks - k)) behind
  pub tallied : IsTally g bytes (copies_of front) tally

pub reaches_none : (g : Geometry) (bytes : List ℕ) (bodies : List Body) (tally : Tally) → HasBodies g bytes (range_with_len 0 g.blocks) bodies → IsTally g bytes [] tally → Reaches g bytes bodies 0 tally
reaches_none g bytes bodies tally has tallied = record { front = []; behind = bodies; parts = refl; has = subst (λ (n : ℕ). HasBodies g bytes (range_with_len 0 n) bodies) (omega arith) has; tallied = tallied }

-- the blocks from one on are it and those behind it
blocks_from : (g : Geometry) (k : ℕ) → k < g.blocks → range_with_len k (g.blocks - k) ≡ k ∷ range_with_len (k + 1) (g.blocks - (k + 1))
blocks_from g k lt =
    let one : g.blocks - k ≡ suc (g.blocks - (k + 1)) = omega arith in
    ap (range_with_len k) one

module _ (g : Geometry) (bytes : List ℕ) (gates : List Gate) (bodies : List Body) (k : ℕ) (within : k < g.blocks) (are : AreGates g bytes gates) where
  ahead : (tally : Tally) → (r : Reaches g bytes bodies k tally) → HasBodies g bytes (k ∷ range_with_len (k + 1) (g.blocks - (k + 1))) r.behind
  ahead tally r = subst (λ (l : List ℕ). HasBodies g bytes l r.behind) (blocks_from g k within) r.has

  pub reaches_closed : (tally : Tally) → Reaches g bytes bodies k tally → option_map is_set (slice_get gates k) ≡ Some false → Reaches g bytes bodies (k + 1) tally
  reaches_closed tally r shut = by (ahead tally r)
    where
      closed : IsClosed (gate_sector g k bytes)
      closed = let at = gate_there gates k false shut in told_shut at.0 (gate_sector g k bytes) at.2 (are k at.0 at.1)

      by : HasBodies g bytes (k ∷ range_with_len (k + 1) (g.blocks - (k + 1))) r.behind → Reaches g bytes bodies (k + 1) tally
      by (inl other) = record { front = r.front; behind = r.behind; parts = r.parts; has = other.1; tallied = r.tallied }
      by (inr open_one) = absurd (closed open_one.0)

  pub reaches_open : (old new : Tally) → Reaches g bytes bodies k old → option_map is_set (slice_get gates k) ≡ Some true → TakesBlock g bytes k old new → Reaches g bytes bodies (k + 1) new
  reaches_open old new r set takes = by (ahead old r)
    where
      by : HasBodies g bytes (k ∷ range_with_len (k + 1) (g.blocks - (k + 1))) r.behind → Reaches g bytes bodies (k + 1) new
      by (inl shut) = absurd (shut.0 (are k Set (gate_set gates k set)))
      by (inr one) =
          let b : Body = one.1 in
          let stands : (c : Copy) → Contains (copies_from k 0 b.records) c → Stands g bytes c =
          λ c there. stand_all g bytes (k ∷ []) (b ∷ []) (inr (one.0, b, [], one.3, one.4, refl, refl)) c
          (subst (λ (l : List Copy). Contains l c) (sym (append-nil (copies_from b.block 0 b.records))) (subst (λ (n : ℕ). Contains (copies_from n 0 b.records) c) (sym one.4) there)) in
          record {
            front = r.front ++ b ∷ [];
            behind = one.2;
            parts = r.parts ∙ ap (λ (l : List Body). r.front ++ l) one.5 ∙ sym (append_assoc r.front (b ∷ []) one.2);
            has = one.6;
            tallied = subst (λ (l : List Copy). IsTally g bytes l new) (ap (λ (n : ℕ). copies_of r.front ++ copies_from n 0 b.records) (sym one.4) ∙ sym (copies_more r.front b))
                (takes (copies_of r.front) b one.3 one.4 stands r.tallied);
          }

  -- it isn't damaged there
  pub not_stopped : (old : Tally) → Reaches g bytes bodies k old → option_map is_set (slice_get gates k) ≡ Some true → (cause : StartCause) → IsStop g bytes k cause → IsByBytes cause → ⊥
  not_stopped old r set (why.NotFormatted first) stop rests = stop
  not_stopped old r set (why.OtherGeometry kept asked size) stop rests = stop
  not_stopped old r set (why.DamagedBlock block place) stop rests = by (ahead old r)
    where
      by : HasBodies g bytes (k ∷ range_with_len (k + 1) (g.blocks - (k + 1))) r.behind → ⊥
      by (inl shut) = shut.0 (are k Set (gate_set gates k set))
      by (inr one) = stop one.1 one.3 one.4
  not_stopped old r set why.Memory stop rests = rests
  not_stopped old r set why.Fault stop rests = rests

-- behind the last block all were taken in
pub reaches_all : (g : Geometry) (bytes : List ℕ) (bodies : List Body) (k : ℕ) (tally : Tally) → g.blocks ≤ k → Reaches g bytes bodies k tally → IsTally g bytes (copies_of bodies) tally
reaches_all g bytes bodies k tally all r =
    let none : g.blocks - k ≡ 0 = omega arith in
    let empty : r.behind ≡ [] = subst (λ (n : ℕ). HasBodies g bytes (range_with_len k n) r.behind) none r.has in
    let front : bodies ≡ r.front = r.parts ∙ ap (λ (l : List Body). r.front ++ l) empty ∙ append-nil r.front in
    subst (λ (l : List Body). IsTally g bytes (copies_of l) tally) (sym front) r.tallied

-- ---- one block

-- the copies of its body were taken in, or memory was wanting, or the disk failed
pub takes_or_stops : (g : Geometry) (bytes : List ℕ) (block : ℕ) (body : List ℕ) (old new : Tally) (before after : ℕ) (r : Result Unit StartCause) → body ≡ body_bytes g block bytes
    → OnOk r (TakesBody g bytes block body old new) → IfErr r (λ cause. IsOwn cause before after) → MatchResult r (λ done. TakesBlock g bytes block old new) (λ cause. IsStop g bytes block cause)
takes_or_stops g bytes block body old new before after (Ok done) is takes own = subst (λ (l : List ℕ). TakesBody g bytes block l old new) is takes
takes_or_stops g bytes block body old new before after (Err (why.NotFormatted first)) is takes own = own
takes_or_stops g bytes block body old new before after (Err (why.OtherGeometry kept asked size)) is takes own = own
takes_or_stops g bytes block body old new before after (Err (why.DamagedBlock damaged place)) is takes own = absurd own
takes_or_stops g bytes block body old new before after (Err why.Memory) is takes own = tt
takes_or_stops g bytes block body old new before after (Err why.Fault) is takes own = tt

pub no_body : (g : Geometry) (bytes : List ℕ) (block : ℕ) (body : List ℕ) → length body ≡ g.block_size - 4096 → body ≡ body_bytes g block bytes → HasNoBody body block
    → (b : Body) → IsBody (block_capacity g.block_size) (body_bytes g block bytes) b → b.block ≡ block → ⊥
no_body g bytes block body long is none b is_body at =
    none b (subst (λ (n : ℕ). IsBody n body b) (sym (one_capacity g body long)) (subst (λ (l : List ℕ). IsBody (block_capacity g.block_size) l b) (sym is) is_body)) at
