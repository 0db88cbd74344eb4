-- What a node keeps over its calls, and what is seen of it.
use Rattle.std.proofs.Common.{◌≡◌, inl, inr, ◌≤◌, ◌<◌, ℕ, zero, suc, ◌+◌, List, [], ◌∷◌, length, get_or, set, refl, sym, ◌∙◌, ap, subst, arith}
use Rattle.std.specs.Prelude.{Option, Some, None, Result, Ok, Err, slice_get, Vec, vec_capacity}
use Rattle.std.specs.Global.{Global}
use Rattle.std.specs.Vec.{with_items}
use Rattle.std.proofs.lemmas.List.{with_items_is}
use Rattle.std.proofs.lemmas.Option.{slice_get-get_or}
use Rattle.disk_model.specs.Disk.{DiskView, IsDisk}
use Rattle.cold_scan.specs.declared.header.StartCause.{StartCause}
use Rattle.block_format.specs.declared.geometry.Geometry.{Geometry}
use Rattle.shard_core.specs.declared.settings.Settings.{Settings}
use Rattle.shard_core.specs.View.{ShardView, SameSetup}
use Rattle.core_run.specs.Views.{NodeView, IsNode, AreDevices, serving, halted}
use Rattle.line_proto.specs.declared.command.Command.{Command}
use Rattle.line_proto.specs.declared.reply.Reply.{Reply}
use Rattle.core_run.specs.Calls.{Acts, Tends}
use Rattle.node_replies.specs.Through.{Through}
use Rattle.core_run.specs.Turns.{TendTurn, WorksEach}
use Rattle.core_run.proofs.Commands.{tend_tends, tends_halted}

module _ {D : Type 0} where
  abbrev pub seen_so : List (ShardView D) → Option (ℕ × StartCause) → List D → NodeView D
  seen_so shards refused disks = record { shards = shards; refused = refused; disks = disks }

  -- each shape and all settings stay
  abbrev pub SameEach : (olds news : List (ShardView D)) → Type 0
  SameEach [] news = news ≡ []
  SameEach (old ∷ olds) [] = ⊥
  SameEach (old ∷ olds) (new ∷ news) = SameSetup old new × SameEach olds news

  pub same_all : (shards : List (ShardView D)) → SameEach shards shards
  same_all [] = refl
  same_all (shard ∷ shards) = (record { geometry = refl; set = refl }, same_all shards)

  pub same_length : (olds news : List (ShardView D)) → SameEach olds news → length news ≡ length olds
  same_length [] news same = ap length same
  same_length (old ∷ olds) [] same = absurd same
  same_length (old ∷ olds) (new ∷ news) same = ap suc (same_length olds news same.1)

  devices_kept : (set : Settings) (device devices : ℕ) (olds news : List (ShardView D)) → SameEach olds news → AreDevices set device devices olds → AreDevices set device devices news
  devices_kept set device devices [] news same are = subst (AreDevices set device devices) (sym same) tt
  devices_kept set device devices (old ∷ olds) [] same are = absurd same
  devices_kept set device devices (old ∷ olds) (new ∷ news) same are = (
    same.0.set ∙ are.0,
    ap (λ (g : Geometry). g.device) same.0.geometry ∙ are.1,
    ap (λ (g : Geometry). g.devices) same.0.geometry
        ∙ are.2,
    devices_kept set (device + 1) devices olds news same.1 are.3,
  )

  none_kept : (olds news : List (ShardView D)) → SameEach olds news → olds ≡ [] → news ≡ []
  none_kept [] news same none = same
  none_kept (old ∷ olds) news same none = cc

  -- the devices may have changed, but not their shapes
  pub node_kept : (set : Settings) (a b : ℕ) (olds news : List (ShardView D)) (refused : Option (ℕ × StartCause)) (disks : List D) → SameEach olds news → IsNode set a b (seen_so olds refused disks)
      → IsNode set a b (seen_so news refused disks)
  node_kept set a b olds news None disks same is =
      let many = same_length olds news same in
      let few = is.1.1 in
      let most = is.1.2 in
      let room = is.1.3 in (
        is.0,
        (
          is.1.0,
          omega (arith, many, few),
          omega (arith, many, most),
          omega (arith, many, room),
          subst (λ (n : ℕ). AreDevices set 0 n news) (sym many) (devices_kept set 0 (length olds) olds news same is.1.4),
        ),
      )
  node_kept set a b olds news (Some why) disks same is = (is.0, (none_kept olds news same is.1.0, is.1.1))

  -- one that wasn't refused serves, and one that was halted
  pub node_serves : (set : Settings) (a b : ℕ) (shards : List (ShardView D)) (refused : Option (ℕ × StartCause)) (disks : List D) → refused ≡ None → IsNode set a b (seen_so shards refused disks)
      → seen_so shards refused disks ≡ serving shards
  node_serves set a b shards None disks none is = λ i. record { shards = shards; refused = None; disks = is.1.0 i }
  node_serves set a b shards (Some why) disks none is = cc

  pub node_halts : (set : Settings) (a b : ℕ) (shards : List (ShardView D)) (refused : Option (ℕ × StartCause)) (disks : List D) (why : ℕ × StartCause) → refused ≡ Some why
      → IsNode set a b (seen_so shards refused disks)
      → seen_so shards refused disks ≡ halted why disks
  node_halts set a b shards None disks why some is = cc
  node_halts set a b shards (Some other) disks why some is = λ i. record { shards = is.1.0 i; refused = some i; disks = disks }

  -- ---- what the loops keep

  pub same_through : {A : Type 0} (Turn : A → ShardView D → ShardView D → A → Type 0) → ((a : A) (old new : ShardView D) (b : A) → Turn a old new b → SameSetup old new)
      → (a b : A) (olds news : List (ShardView D)) → Through Turn (length olds) a olds news b → SameEach olds news
  same_through Turn each a b [] news through = through.0
  same_through Turn each a b (old ∷ olds) [] through = absurd through
  same_through Turn each a b (old ∷ olds) (new ∷ news) through = (each a old new through.0 through.1, same_through Turn each through.0 b olds news through.2)

  pub same_worked : {R E : Type 0} (Does : Result R E → ShardView D → ShardView D → Type 0) (plus : R → R → R)
      → ((result : Result R E) (old new : ShardView D) → Does result old new → SameSetup old new)
      → (result : Result R E) (a : R) (olds news : List (ShardView D)) → WorksEach Does plus result a olds news → SameEach olds news
  same_worked Does plus one (Ok sum) a [] news each = each.0
  same_worked Does plus one (Err why) a [] news each = absurd each
  same_worked Does plus one (Ok sum) a (old ∷ olds) [] each = absurd each
  same_worked Does plus one (Err why) a (old ∷ olds) [] each = absurd each
  same_worked Does plus one (Ok sum) a (old ∷ olds) (new ∷ news) (x, does, more) = (one (Ok x) old new does, same_worked Does plus one (Ok sum) (plus a x) olds news more)
  same_worked Does plus one (Err why) a (old ∷ olds) (new ∷ news) (inl (does, same)) = (one (Err why) old new does, subst (SameEach olds) (sym same) (same_all olds))
  same_worked Does plus one (Err why) a (old ∷ olds) (new ∷ news) (inr (x, does, more)) = (one (Ok x) old new does, same_worked Does plus one (Err why) (plus a x) olds news more)

  pub same_at : (shards : List (ShardView D)) (place : ℕ) (old new : ShardView D) → slice_get shards place ≡ Some old → SameSetup old new → SameEach shards (set shards place new)
  same_at [] place old new at same = cc
  same_at (shard ∷ shards) zero old new at same = let one : shard ≡ old = cc in (subst (λ (s : ShardView D). SameSetup s new) (sym one) same, same_all shards)
  same_at (shard ∷ shards) (suc place) old new at same = (record { geometry = refl; set = refl }, same_at shards place old new at same)

  -- the device at a place
  pub device_at : (set : Settings) (device devices : ℕ) (shards : List (ShardView D)) (place : ℕ) (shard : ShardView D) → AreDevices set device devices shards → slice_get shards place ≡ Some shard
      → (shard.shelf.geometry.device ≡ device + place) × (shard.shelf.geometry.devices ≡ devices)
  device_at set device devices [] place shard are at = cc
  device_at set device devices (x ∷ shards) zero shard are at =
      let one : x ≡ shard = cc in
      let here : device ≡ device + 0 = omega arith in
      (ap (λ (s : ShardView D). s.shelf.geometry.device) (sym one) ∙ are.1 ∙ here, ap (λ (s : ShardView D). s.shelf.geometry.devices) (sym one) ∙ are.2)
  device_at set device devices (x ∷ shards) (suc place) shard are at =
      let more = device_at set (device + 1) devices shards place shard are.3 at in
      let further : device + 1 + place ≡ device + suc place = omega arith in
      (more.0 ∙ further, more.1)

-- a tending, whether the node serves or halted
pub tends_so : {D : Type 0} {A : Type 0} (view : D → DiskView) → ((disk : D) → IsDisk (view disk))
    → (set : Settings) (a b : ℕ) (olds news : List (ShardView D)) (refused : Option (ℕ × StartCause)) (disks : List D) (x y : A)
    → IsNode set a b (seen_so olds refused disks) → Through (TendTurn view) (length olds) x olds news y → Tends view (seen_so olds refused disks) (seen_so news refused disks)
tends_so {D} {A} view is_disk set a b olds news refused disks x y is through = by refused refl
  where
    same : SameEach olds news
    same = same_through (TendTurn {A = A} view) (λ p old new q turn. turn.goes.shape) x y olds news through

    by : (r : Option (ℕ × StartCause)) → refused ≡ r → Tends view (seen_so olds refused disks) (seen_so news refused disks)
    by None none =
        subst (λ (n : NodeView D). Tends view n (seen_so news refused disks)) (sym (node_serves set a b olds refused disks none is))
        (subst (λ (n : NodeView D). Tends view (serving olds) n) (sym (node_serves set a b news refused disks none (node_kept set a b olds news refused disks same is)))
        (tend_tends view is_disk x y olds news through))
    by (Some why) some =
        subst (λ (n : NodeView D). Tends view n (seen_so news refused disks)) (sym (node_halts set a b olds refused disks why some is))
        (subst (λ (n : NodeView D). Tends view (halted why disks) n) (sym (node_halts set a b news refused disks why some (node_kept set a b olds news refused disks same is)))
        (tends_halted view is_disk why disks))

module _ {D : Type 0} (set : Settings) (a b : ℕ) (shards : List (ShardView D)) (refused : Option (ℕ × StartCause)) (disks : List D) where
  -- a node has at most 16 devices
  pub few_served : IsNode set a b (seen_so shards refused disks) → length shards ≤ 16
  few_served is = by refused is
    where
      by : (r : Option (ℕ × StartCause)) → IsNode set a b (seen_so shards r disks) → length shards ≤ 16
      by None is = is.1.2
      by (Some why) is = let none = ap length is.1.0 in omega (arith, none)

  -- one that serves has no disks besides
  pub no_disks : refused ≡ None → IsNode set a b (seen_so shards refused disks) → disks ≡ []
  no_disks none is = by refused none is
    where
      by : (r : Option (ℕ × StartCause)) → r ≡ None → IsNode set a b (seen_so shards r disks) → disks ≡ []
      by None none is = is.1.0
      by (Some why) none is = cc

-- ---- what a test has told

module _ {D : Type 0} (set : Settings) (a b : ℕ) (shards : List (ShardView D)) (refused : Option (ℕ × StartCause)) (disks : List D) where
  -- the devices of one that serves
  pub devices_of : refused ≡ None → IsNode set a b (seen_so shards refused disks) → (1 ≤ length shards) × (length shards ≤ 16) × (length shards ≤ b) × AreDevices set 0 (length shards) shards
  devices_of none is = by refused none is
    where
      by : (r : Option (ℕ × StartCause)) → r ≡ None → IsNode set a b (seen_so shards r disks) → (1 ≤ length shards) × (length shards ≤ 16) × (length shards ≤ b)
          × AreDevices set 0 (length shards) shards
      by None none is = (is.1.1, is.1.2, is.1.3, is.1.4)
      by (Some why) none is = cc

-- the device of a digest, as a call finds it
pub device_there : {X : Type 0} (shards : List X) (n len device from : ℕ) (x : X) → len ≡ n → n ≡ length shards → device < len → from ≡ device → x ≡ get_or shards from x → slice_get shards from ≡ Some x
device_there shards n len device from x len_is n_is below is value =
    let within : from < length shards = omega (arith, len_is, n_is, below, is) in slice_get-get_or shards from x within ∙ ap (λ y. Some y) (sym value)

-- a command of a node that serves before it and after it
pub acts_so : {D : Type 0} (view : D → DiskView) (set : Settings) (a b : ℕ) (olds news : List (ShardView D)) (refused : Option (ℕ × StartCause)) (disks : List D) (self : NodeView D)
    (c : Command) (now : ℕ) (r : Reply)
    → IsNode set a b (seen_so olds refused disks) → refused ≡ None → SameEach olds news → seen_so olds refused disks ≡ self → Acts view (serving olds) c now r (serving news)
    → Acts view self c now r (seen_so news refused disks)
acts_so {D} view set a b olds news refused disks self c now r is none same seen acts =
    subst (λ (old : NodeView D). Acts view old c now r (seen_so news refused disks)) (sym (node_serves set a b olds refused disks none is) ∙ seen)
    (subst (λ (new : NodeView D). Acts view (serving olds) c now r new) (sym (node_serves set a b news refused disks none (node_kept set a b olds news refused disks same is))) acts)

-- ---- a call of all devices, which stay in their vector

pub items_are : {D : Type 0} (shards : Vec (ShardView D) Global) (news : List (ShardView D)) → SameEach shards.items news → (with_items shards news).items ≡ news
items_are shards news same = with_items_is shards news (same_length shards.items news same ∙ sym shards.ok.0)

module _ {D : Type 0} (set : Settings) (b : ℕ) (shards : Vec (ShardView D) Global) (news : List (ShardView D)) (refused : Option (ℕ × StartCause)) (disks : List D) (same : SameEach shards.items news)
    (is : IsNode set (vec_capacity shards) b (seen_so shards.items refused disks)) where
  pub all_kept : IsNode set (vec_capacity shards) b (seen_so (with_items shards news).items refused disks)
  all_kept = subst (λ (s : List (ShardView D)). IsNode set (vec_capacity shards) b (seen_so s refused disks)) (sym (items_are shards news same))
      (node_kept set (vec_capacity shards) b shards.items news refused disks same is)

  pub all_act : refused ≡ None → (view : D → DiskView) (self : NodeView D) (c d : Command) (now : ℕ) (r : Reply) → seen_so shards.items refused disks ≡ self → c ≡ d
      → Acts view (serving shards.items) d now r (serving news)
      → Acts view self c now r (seen_so (with_items shards news).items refused disks)
  all_act none view self c d now r seen named acts =
      subst (λ (x : Command). Acts view self x now r (seen_so (with_items shards news).items refused disks)) (sym named)
      (subst (λ (s : List (ShardView D)). Acts view self d now r (seen_so s refused disks)) (sym (items_are shards news same))
      (acts_so view set (vec_capacity shards) b shards.items news refused disks self d now r is none same seen acts))
