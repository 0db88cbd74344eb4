-- The bodies of an image that can be read are those that it shows.
use Rattle.std.proofs.Common.{◌≡◌, ◌≢◌, ◌⊎◌, inl, inr, ⊎_elim, ℕ, ◌<◌, ◌≤◌, List, [], ◌∷◌, take, length, refl, sym, ◌∙◌, subst, arith}
use Rattle.std.proofs.lemmas.Bool.{cases_eq}
use Rattle.std.specs.Prelude.{Contains}
use Rattle.std.specs.List.{AllByRecursion, range_with_len}
use Rattle.law_lists.proofs.Each.{all_at, all_from}
use Rattle.law_lists.proofs.Members.{cons_cases, first_there, rest_there}
use Rattle.law_lists.proofs.Ranges.{range_there, range_below}
use Rattle.rec_format.specs.Versions.{block_capacity}
use Rattle.block_format.specs.declared.geometry.Geometry.{Geometry}
use Rattle.block_format.specs.Layout.{IsOpen, IsClosed, IsHeader, gate_sector, body_bytes, device_end, Body, IsBody}
use Rattle.block_format.specs.Copies.{HasBodies, IsReadable}
use Rattle.block_format.proofs.BodyLaws.{one_body}
use Rattle.law_start.specs.Writes.{DiffersIn}
use Rattle.law_images.specs.Kept.{Shows}

-- a block is closed, or the image shows a body in it
pub record IsShownIn (g : Geometry) (image : List ℕ) (block : ℕ) : Type 0 where
  pub body : Body
  pub placed : body.block ≡ block
  pub shown : Shows g image body

abbrev pub IsClear : Geometry → List ℕ → ℕ → Type 0
IsClear g image block = IsClosed (gate_sector g block image) ⊎ IsShownIn g image block

-- two bodies that are shown in one block are one
pub one_shown : (g : Geometry) (image : List ℕ) (a b : Body) → Shows g image a → Shows g image b → a.block ≡ b.block → a ≡ b
one_shown g image a b in_a in_b same =
    one_body (block_capacity g.block_size) (block_capacity g.block_size) (body_bytes g a.block image) a b in_a.is_body
    (subst (λ (k : ℕ). IsBody (block_capacity g.block_size) (body_bytes g k image) b) (sym same) in_b.is_body) same

-- so they are in two images with the same bytes there
pub one_behind : (g : Geometry) (c d : List ℕ) (a b : Body) → Shows g c a → Shows g d b → a.block ≡ b.block → body_bytes g b.block d ≡ body_bytes g a.block c → a ≡ b
one_behind g c d a b in_a in_b same bytes =
    one_body (block_capacity g.block_size) (block_capacity g.block_size) (body_bytes g a.block c) a b in_a.is_body
    (subst (λ (l : List ℕ). IsBody (block_capacity g.block_size) l b) bytes in_b.is_body) same

module _ (g : Geometry) (image : List ℕ) where
  -- ---- from bodies to what is shown

  shown_at : (block : ℕ) (blocks : List ℕ) (bodies : List Body) → block < g.blocks → ((others : List Body) → HasBodies g image blocks others → AllByRecursion (Shows g image) others)
      → HasBodies g image (block ∷ blocks) bodies → AllByRecursion (Shows g image) bodies
  shown_at block blocks bodies lt rest (inl h) = rest bodies h.1
  shown_at block blocks bodies lt rest (inr h) =
      subst (AllByRecursion (Shows g image)) (sym h.5) (
        record {
          within = subst (λ (k : ℕ). k < g.blocks) (sym h.4) lt;
          is_open = subst (λ (k : ℕ). IsOpen (gate_sector g k image)) (sym h.4) h.0;
          is_body = subst (λ (k : ℕ). IsBody (block_capacity g.block_size) (body_bytes g k image) h.1) (sym h.4) h.3;
        },
        rest h.2 h.6,
      )

  all_shown : (blocks : List ℕ) (bodies : List Body) → AllByRecursion (λ k. k < g.blocks) blocks → HasBodies g image blocks bodies → AllByRecursion (Shows g image) bodies
  all_shown [] bodies below has = subst (AllByRecursion (Shows g image)) (sym has) tt
  all_shown (block ∷ blocks) bodies below has = shown_at block blocks bodies below.0 (λ others h. all_shown blocks others below.1 h) has

  clear_at : (block : ℕ) (blocks : List ℕ) (bodies : List Body) → block < g.blocks → ((others : List Body) → HasBodies g image blocks others → AllByRecursion (IsClear g image) blocks)
      → HasBodies g image (block ∷ blocks) bodies → AllByRecursion (IsClear g image) (block ∷ blocks)
  clear_at block blocks bodies lt rest (inl h) = (inl h.0, rest bodies h.1)
  clear_at block blocks bodies lt rest (inr h) = (
    inr (record {
      body = h.1;
      placed = h.4;
      shown = record {
        within = subst (λ (k : ℕ). k < g.blocks) (sym h.4) lt;
        is_open = subst (λ (k : ℕ). IsOpen (gate_sector g k image)) (sym h.4) h.0;
        is_body = subst (λ (k : ℕ). IsBody (block_capacity g.block_size) (body_bytes g k image) h.1) (sym h.4) h.3;
      };
    }),
    rest h.2 h.6,
  )

  all_clear : (blocks : List ℕ) (bodies : List Body) → AllByRecursion (λ k. k < g.blocks) blocks → HasBodies g image blocks bodies → AllByRecursion (IsClear g image) blocks
  all_clear [] bodies below has = tt
  all_clear (block ∷ blocks) bodies below has = clear_at block blocks bodies below.0 (λ others h. all_clear blocks others below.1 h) has

  -- ---- and back

  there_at : (body : Body) → Shows g image body → (block : ℕ) (blocks : List ℕ) (bodies : List Body) → (block ≡ body.block) ⊎ Contains blocks body.block
      → (Contains blocks body.block → (others : List Body) → HasBodies g image blocks others → Contains others body) → HasBodies g image (block ∷ blocks) bodies → Contains bodies body
  there_at body is block blocks bodies (inl e) rest (inl h) = absurd (h.0 (subst (λ (k : ℕ). IsOpen (gate_sector g k image)) (sym e) is.is_open))
  there_at body is block blocks bodies (inr more) rest (inl h) = rest more bodies h.1
  there_at body is block blocks bodies (inl e) rest (inr h) =
      let capacity = block_capacity g.block_size in
      let mine = subst (λ (k : ℕ). IsBody capacity (body_bytes g k image) body) (sym e) is.is_body in
      let same = one_body capacity capacity (body_bytes g block image) h.1 body h.3 mine (h.4 ∙ e) in
      subst (λ (l : List Body). Contains l body) (sym h.5) (subst (Contains (h.1 ∷ h.2)) same (first_there h.1 h.2))
  there_at body is block blocks bodies (inr more) rest (inr h) = subst (λ (l : List Body). Contains l body) (sym h.5) (rest_there h.1 h.2 body (rest more h.2 h.6))

  all_there : (body : Body) → Shows g image body → (blocks : List ℕ) (bodies : List Body) → Contains blocks body.block → HasBodies g image blocks bodies → Contains bodies body
  all_there body is [] bodies there has = absurd (omega (arith, there.1))
  all_there body is (block ∷ blocks) bodies there has =
      there_at body is block blocks bodies (cons_cases block blocks body.block there) (λ more others h. all_there body is blocks others more h) has

  read_at : (block : ℕ) (blocks : List ℕ) → IsClear g image block → (bodies : List Body) × HasBodies g image blocks bodies → (bodies : List Body) × HasBodies g image (block ∷ blocks) bodies
  read_at block blocks (inl closed) rest = (rest.0, inl (closed, rest.1))
  read_at block blocks (inr is) rest = (
    is.body ∷ rest.0,
    inr (
      subst (λ (k : ℕ). IsOpen (gate_sector g k image)) is.placed is.shown.is_open,
      is.body,
      rest.0,
      subst (λ (k : ℕ). IsBody (block_capacity g.block_size) (body_bytes g k image) is.body) is.placed is.shown.is_body,
      is.placed,
      refl,
      rest.1,
    ),
  )

  all_read : (blocks : List ℕ) → AllByRecursion (IsClear g image) blocks → (bodies : List Body) × HasBodies g image blocks bodies
  all_read [] all = ([], refl)
  all_read (block ∷ blocks) all = read_at block blocks all.0 (all_read blocks all.1)

  below : AllByRecursion (λ k. k < g.blocks) (range_with_len 0 g.blocks)
  below = range_below 0 g.blocks g.blocks (omega arith)

  -- ---- an image that can be read

  pub body_shown : (bodies : List Body) (body : Body) → IsReadable image g bodies → Contains bodies body → Shows g image body
  body_shown bodies body r there = all_at (Shows g image) bodies body (all_shown (range_with_len 0 g.blocks) bodies below r.blocks) there

  pub shown_there : (bodies : List Body) (body : Body) → IsReadable image g bodies → Shows g image body → Contains bodies body
  shown_there bodies body r is = all_there body is (range_with_len 0 g.blocks) bodies (range_there g.blocks body.block is.within) r.blocks

  pub clear_block : (bodies : List Body) (block : ℕ) → IsReadable image g bodies → block < g.blocks → IsClear g image block
  clear_block bodies block r lt = all_at (IsClear g image) (range_with_len 0 g.blocks) block (all_clear (range_with_len 0 g.blocks) bodies below r.blocks) (range_there g.blocks block lt)

  pub readable_from : IsHeader (take 4096 image) g → device_end g ≤ length image → ((block : ℕ) → block < g.blocks → IsClear g image block) → (bodies : List Body) × IsReadable image g bodies
  readable_from header size each =
      let is = all_read (range_with_len 0 g.blocks) (all_from (IsClear g image) (range_with_len 0 g.blocks)
      (λ k there. each k (all_at (λ x. x < g.blocks) (range_with_len 0 g.blocks) k below there))) in
      (is.0, record { header = header; size = size; blocks = is.1 })

-- ---- a change within one block

module _ (g : Geometry) (block : ℕ) (old new : List ℕ) (differs : DiffersIn g block old new) where
  -- a body of another block is shown as before
  pub shown_still : (body : Body) → body.block ≢ block → Shows g old body → Shows g new body
  shown_still body other is = record {
    within = is.within;
    is_open = subst IsOpen (sym (differs.gates body.block is.within other)) is.is_open;
    is_body = subst (λ (l : List ℕ). IsBody (block_capacity g.block_size) l body) (sym (differs.bodies body.block is.within other)) is.is_body;
  }

  pub shown_before : (body : Body) → body.block ≢ block → Shows g new body → Shows g old body
  shown_before body other is = record {
    within = is.within;
    is_open = subst IsOpen (differs.gates body.block is.within other) is.is_open;
    is_body = subst (λ (l : List ℕ). IsBody (block_capacity g.block_size) l body) (differs.bodies body.block is.within other) is.is_body;
  }

  -- where the block is closed or shows a body the image can be read
  pub readable_changed : (bodies : List Body) → IsReadable old g bodies → IsClear g new block → (others : List Body) × IsReadable new g others
  readable_changed bodies r clear =
      readable_from g new (subst (λ (bytes : List ℕ). IsHeader bytes g) (sym differs.header) r.header) (subst (λ (n : ℕ). device_end g ≤ n) (sym differs.size) r.size) each
    where
      moved : (k : ℕ) → k < g.blocks → k ≢ block → IsClear g old k → IsClear g new k
      moved k lt other (inl closed) = inl (subst IsClosed (sym (differs.gates k lt other)) closed)
      moved k lt other (inr is) = inr (record { body = is.body; placed = is.placed; shown = shown_still is.body (λ e. other (sym is.placed ∙ e)) is.shown })

      each : (k : ℕ) → k < g.blocks → IsClear g new k
      each k lt = ⊎_elim (λ (e : k ≡ block). subst (IsClear g new) (sym e) clear) (λ (other : k ≢ block). moved k lt other (clear_block g old bodies k r lt)) (cases_eq k block)
