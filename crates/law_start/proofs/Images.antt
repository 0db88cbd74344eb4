-- The shape that a setup names, and what is in the blocks of an image when one block changes.
use Rattle.std.proofs.Common.{◌≡◌, ◌≢◌, ◌⊎◌, inl, inr, ⊎_elim, ℕ, suc, ◌+◌, ◌-◌, ◌*◌, ◌^◌, ◌<◌, ◌≤◌, List, [], ◌∷◌, ◌++◌, refl, sym, ◌∙◌, ap, subst, arith}
use Rattle.std.proofs.Math.Pow.{pow_mono}
use Rattle.std.proofs.lemmas.Nat.{pow-add}
use Rattle.std.proofs.lemmas.Bool.{cases_eq}
use Rattle.std.specs.List.{AllByRecursion, range_with_len}
use Rattle.law_lists.proofs.Ranges.{range_all, range_parts}
use Rattle.rec_format.specs.Versions.{block_capacity}
use Rattle.model_device.specs.Book.{Setup}
use Rattle.block_format.specs.declared.geometry.Geometry.{Geometry}
use Rattle.block_format.specs.Layout.{IsBlockSize, IsGeometry, IsOpen, IsClosed, gate_sector, body_bytes, device_end, Body, IsBody, IsHeader}
use Rattle.block_format.specs.Copies.{HasBodies, IsReadable}
use Rattle.law_start.specs.Sound.{IsShapeOf}
use Rattle.law_start.specs.Writes.{DiffersIn}

-- ---- the shape

sixteens : (size : ℕ) → IsBlockSize size → (n : ℕ) × (size ≡ 16 * n) × (16384 ≤ size)
sixteens size is = (
  2 ^ (is.0 - 4),
  is.3 ∙ ap (λ (k : ℕ). 2 ^ k) parts ∙ pow-add 2 4 (is.0 - 4),
  subst (λ (n : ℕ). 16384 ≤ n) (sym is.3) (pow_mono {i = 14} {j = is.0} is.1),
)
  where
    parts : is.0 ≡ 4 + (is.0 - 4)
    parts = omega (arith, is.1)

-- a block size follows from its capacity
one_size : (a b : ℕ) → IsBlockSize a → IsBlockSize b → block_capacity a ≡ block_capacity b → a ≡ b
one_size a b is_a is_b same = of_sixteens (sixteens a is_a) (sixteens b is_b)
  where
    of_sixteens : (m : ℕ) × (a ≡ 16 * m) × (16384 ≤ a) → (n : ℕ) × (b ≡ 16 * n) × (16384 ≤ b) → a ≡ b
    of_sixteens x y = omega (arith, x.1, x.2, y.1, y.2, same)

pub one_shape : (setup : Setup) (g h : Geometry) → IsShapeOf setup g → IsShapeOf setup h → IsGeometry g → IsGeometry h → g ≡ h
one_shape setup g h of_g of_h is_g is_h = λ i. record { block_size = size i; blocks = blocks i; device = device i; devices = devices i }
  where
    size : g.block_size ≡ h.block_size
    size = one_size g.block_size h.block_size is_g.block_size is_h.block_size (sym of_g.capacity ∙ of_h.capacity)

    blocks : g.blocks ≡ h.blocks
    blocks = sym of_g.blocks ∙ of_h.blocks

    device : g.device ≡ h.device
    device = sym of_g.device ∙ of_h.device

    devices : g.devices ≡ h.devices
    devices = sym of_g.devices ∙ of_h.devices

-- ---- ranges of blocks

-- the blocks before one, and those behind it
abbrev blocks_behind : Geometry → ℕ → List ℕ
blocks_behind g block = range_with_len (block + 1) (g.blocks - (block + 1))

blocks_parted : (g : Geometry) (block : ℕ) → block < g.blocks → range_with_len 0 g.blocks ≡ range_with_len 0 block ++ block ∷ blocks_behind g block
blocks_parted g block lt =
    let whole : g.blocks ≡ block + suc (g.blocks - (block + 1)) = omega arith in let same : 0 + block ≡ block = omega arith in
    ap (range_with_len 0) whole ∙ range_parts 0 block (suc (g.blocks - (block + 1)))
    ∙ ap (λ (k : ℕ). range_with_len 0 block ++ range_with_len k (suc (g.blocks - (block + 1)))) same

-- ---- bodies

-- two images show the same in a block: its gate is closed in both, or its gate and its body are the same
abbrev pub IsAlike : Geometry → (old new : List ℕ) → (block : ℕ) → Type 0
IsAlike g old new block =
    (IsClosed (gate_sector g block old) × IsClosed (gate_sector g block new))
    ⊎ ((gate_sector g block new ≡ gate_sector g block old) × (body_bytes g block new ≡ body_bytes g block old))

alike_at : (g : Geometry) (old new : List ℕ) (block : ℕ) (blocks : List ℕ) (bodies : List Body) → ((others : List Body) → HasBodies g old blocks others → HasBodies g new blocks others)
    → IsAlike g old new block → HasBodies g old (block ∷ blocks) bodies → HasBodies g new (block ∷ blocks) bodies
alike_at g old new block blocks bodies rest (inl closed) (inl h) = inl (closed.1, rest bodies h.1)
alike_at g old new block blocks bodies rest (inl closed) (inr h) = absurd (closed.0 h.0)
alike_at g old new block blocks bodies rest (inr same) (inl h) = inl (subst IsClosed (sym same.0) h.0, rest bodies h.1)
alike_at g old new block blocks bodies rest (inr same) (inr h) = inr (
  subst IsOpen (sym same.0) h.0,
  h.1,
  h.2,
  subst (λ (bytes : List ℕ). IsBody (block_capacity g.block_size) bytes h.1) (sym same.1) h.3,
  h.4,
  h.5,
  rest h.2 h.6,
)

bodies_alike : (g : Geometry) (old new blocks : List ℕ) (bodies : List Body) → AllByRecursion (IsAlike g old new) blocks → HasBodies g old blocks bodies → HasBodies g new blocks bodies
bodies_alike g old new [] bodies all has = has
bodies_alike g old new (block ∷ blocks) bodies all has = alike_at g old new block blocks bodies (λ others h. bodies_alike g old new blocks others all.1 h) all.0 has

-- the bodies of some blocks and those of the blocks behind them
pub record Parted (g : Geometry) (image front back : List ℕ) (bodies : List Body) : Type 0 where
  pub before : List Body
  pub behind : List Body
  pub parts : bodies ≡ before ++ behind
  pub in_front : HasBodies g image front before
  pub in_back : HasBodies g image back behind

parted_at : (g : Geometry) (image : List ℕ) (block : ℕ) (blocks back : List ℕ) (bodies : List Body)
    → ((others : List Body) → HasBodies g image (blocks ++ back) others → Parted g image blocks back others)
    → HasBodies g image (block ∷ blocks ++ back) bodies → Parted g image (block ∷ blocks) back bodies
parted_at g image block blocks back bodies rest (inl h) =
    let r = rest bodies h.1 in
    record { before = r.before; behind = r.behind; parts = r.parts; in_front = inl (h.0, r.in_front); in_back = r.in_back }
parted_at g image block blocks back bodies rest (inr h) =
    let r = rest h.2 h.6 in
    record {
      before = h.1 ∷ r.before;
      behind = r.behind;
      parts = h.5 ∙ ap (λ (l : List Body). h.1 ∷ l) r.parts;
      in_front = inr (h.0, h.1, r.before, h.3, h.4, refl, r.in_front);
      in_back = r.in_back;
    }

bodies_parted : (g : Geometry) (image front back : List ℕ) (bodies : List Body) → HasBodies g image (front ++ back) bodies → Parted g image front back bodies
bodies_parted g image [] back bodies has = record { before = []; behind = bodies; parts = refl; in_front = refl; in_back = has }
bodies_parted g image (block ∷ blocks) back bodies has = parted_at g image block blocks back bodies (λ others h. bodies_parted g image blocks back others h) has

joined_at : (g : Geometry) (image : List ℕ) (block : ℕ) (blocks back : List ℕ) (before behind : List Body)
    → ((others : List Body) → HasBodies g image blocks others → HasBodies g image (blocks ++ back) (others ++ behind))
    → HasBodies g image (block ∷ blocks) before → HasBodies g image (block ∷ blocks ++ back) (before ++ behind)
joined_at g image block blocks back before behind rest (inl h) = inl (h.0, rest before h.1)
joined_at g image block blocks back before behind rest (inr h) =
    inr (h.0, h.1, h.2 ++ behind, h.3, h.4, ap (λ (l : List Body). l ++ behind) h.5, rest h.2 h.6)

bodies_joined : (g : Geometry) (image front back : List ℕ) (before behind : List Body) → HasBodies g image front before → HasBodies g image back behind
    → HasBodies g image (front ++ back) (before ++ behind)
bodies_joined g image [] back before behind in_front in_back = subst (λ (l : List Body). HasBodies g image back (l ++ behind)) (sym in_front) in_back
bodies_joined g image (block ∷ blocks) back before behind in_front in_back =
    joined_at g image block blocks back before behind (λ others h. bodies_joined g image blocks back others behind h in_back) in_front

-- ---- a change within one block

module _ (g : Geometry) (block : ℕ) (old new : List ℕ) (differs : DiffersIn g block old new) where
  alike_apart : (k : ℕ) → k < g.blocks → k ≢ block → IsAlike g old new k
  alike_apart k lt apart = inr (differs.gates k lt apart, differs.bodies k lt apart)

  readable_with : (bodies others : List Body) → IsReadable old g bodies → HasBodies g new (range_with_len 0 g.blocks) others → IsReadable new g others
  readable_with bodies others r has = record {
    header = subst (λ (bytes : List ℕ). IsHeader bytes g) (sym differs.header) r.header;
    size = subst (λ (n : ℕ). device_end g ≤ n) (sym differs.size) r.size;
    blocks = has;
  }

  -- behind a gate that is closed before and after it shows nothing
  pub readable_elsewhere : (bodies : List Body) → IsClosed (gate_sector g block old) → IsClosed (gate_sector g block new) → IsReadable old g bodies → IsReadable new g bodies
  readable_elsewhere bodies closed_old closed_new r = readable_with bodies bodies r
      (bodies_alike g old new (range_with_len 0 g.blocks) bodies (range_all (IsAlike g old new) 0 g.blocks (λ k low high. each k (omega arith))) r.blocks)
    where
      each : (k : ℕ) → k < g.blocks → IsAlike g old new k
      each k lt = ⊎_elim (λ (e : k ≡ block). subst (IsAlike g old new) (sym e) (inl (closed_old, closed_new))) (λ (apart : k ≢ block). alike_apart k lt apart) (cases_eq k block)

  -- Behind a gate that opened it shows a body, between those before it and those behind it.
  pub record Opened (bodies : List Body) (body : Body) : Type 0 where
    pub before : List Body
    pub behind : List Body
    pub parts : bodies ≡ before ++ behind
    pub readable : IsReadable new g (before ++ body ∷ behind)

  pub readable_opened : (bodies : List Body) (body : Body) → block < g.blocks → IsClosed (gate_sector g block old) → IsOpen (gate_sector g block new)
      → IsBody (block_capacity g.block_size) (body_bytes g block new) body → body.block ≡ block → IsReadable old g bodies → Opened bodies body
  readable_opened bodies body lt closed is_open is_body placed r =
      let p = bodies_parted g old (range_with_len 0 block) (block ∷ blocks_behind g block) bodies (subst (λ (l : List ℕ). HasBodies g old l bodies) (blocks_parted g block lt) r.blocks) in
      record {
        before = p.before;
        behind = p.behind;
        parts = p.parts;
        readable = readable_with bodies (p.before ++ body ∷ p.behind) r (subst (λ (l : List ℕ). HasBodies g new l (p.before ++ body ∷ p.behind)) (sym (blocks_parted g block lt))
            (bodies_joined g new (range_with_len 0 block) (block ∷ blocks_behind g block) p.before (body ∷ p.behind) (in_front p.before p.in_front)
            (inr (is_open, body, p.behind, is_body, placed, refl, in_back p.behind p.in_back))));
      }
    where
      in_front : (others : List Body) → HasBodies g old (range_with_len 0 block) others → HasBodies g new (range_with_len 0 block) others
      in_front others has = bodies_alike g old new (range_with_len 0 block) others (range_all (IsAlike g old new) 0 block (λ k low high. alike_apart k (omega arith) (omega arith))) has

      alike_behind : AllByRecursion (IsAlike g old new) (blocks_behind g block)
      alike_behind = range_all (IsAlike g old new) (block + 1) (g.blocks - (block + 1)) (λ k low high. alike_apart k (omega arith) (omega arith))

      in_back : (others : List Body) → HasBodies g old (block ∷ blocks_behind g block) others → HasBodies g new (blocks_behind g block) others
      in_back others (inl h) = bodies_alike g old new (blocks_behind g block) others alike_behind h.1
      in_back others (inr h) = absurd (closed h.0)
