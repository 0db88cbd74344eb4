-- Several calls of a disk, one after another.
use Rattle.std.specs.Prelude.{ℕ, List, [], ◌∷◌, ◌++◌, ◌⊎◌}
use Rattle.std.proofs.Common.{inl, inr}
use Rattle.disk_model.specs.Disk.{Images, DiskView, IsDisk, Advances, meanwhile}

-- Whatever the moment of a crash from old to new, what it might have left has P.
pub record Leaves (P : Images) (old new : DiskView) : Type 0 where
  pub time : Advances old new
  pub each : (c : List ℕ) → meanwhile old new c → P c

pub advances_on : (old mid new : DiskView) → Advances old mid → Advances mid new → Advances old new
advances_on old mid new first then = record {
  started = first.started;
  stays = λ t h. then.stays t (first.stays t h);
  only = λ t c h left. elim (then.only t c (first.stays t h) left) [
    | inl was ↦ elim (first.only t c h was) [
      | inl before ↦ inl before
      | inr during ↦ inr (then.kept old.moment c (first.stays old.moment first.started) during)
    ]
    | inr behind ↦ inr (then.added old.moment c (first.stays old.moment first.started) behind)
  ];
  kept = λ t c h left. then.kept t c (first.stays t h) (first.kept t c h left);
  added = λ t c h left. elim (then.only old.moment c (first.stays old.moment first.started) left) [
    | inl during ↦ then.kept t c (first.stays t h) (first.added t c h during)
    | inr behind ↦ then.added t c (first.stays t h) behind
  ];
}

-- no call
pub leaves_none : (P : Images) (v : DiskView) → IsDisk v → ((c : List ℕ) → v.may_leave c → P c) → Leaves P v v
leaves_none P v is here = record {
  time = record {
    started = is.now_had;
    stays = λ t h. h;
    only = λ t c h left. inl left;
    kept = λ t c h left. left;
    added = λ t c h left. is.now_since t c h (is.now_alone c left);
  };
  each = λ c left. here c (is.now_alone c left);
}

-- one run and then another
pub leaves_then : {P : Images} {old mid new : DiskView} → Leaves P old mid → Leaves P mid new → Leaves P old new
leaves_then {P} {old} {mid} {new} first then = record {
  time = advances_on old mid new first.time then.time;
  each = λ c left. elim (then.time.only old.moment c (first.time.stays old.moment first.time.started) left) [
    | inl during ↦ first.each c during
    | inr behind ↦ then.each c behind
  ];
}

pub leaves_more : {P Q : Images} {old new : DiskView} → ((c : List ℕ) → P c → Q c) → Leaves P old new → Leaves Q old new
leaves_more {P} {Q} {old} {new} weaker run = record { time = run.time; each = λ c left. weaker c (run.each c left) }

-- What a crash at the end may leave has P.
pub leaves_now : {P : Images} {old new : DiskView} → IsDisk new → Leaves P old new → (c : List ℕ) → new.may_leave c → P c
leaves_now {P} {old} {new} is run c image = run.each c (is.now_since old.moment c (run.time.stays old.moment run.time.started) image)

-- P holds of the image and one of these states
abbrev pub OneOf : {S : Type 0} → (S → Images) → List S → Images
OneOf P [] image = ⊥
OneOf P (s ∷ states) image = P s image ⊎ OneOf P states image

pub one_of_front : {S : Type 0} (P : S → Images) (xs ys : List S) (image : List ℕ) → OneOf P xs image → OneOf P (xs ++ ys) image
one_of_front P [] ys image h = absurd h
one_of_front P (x ∷ xs) ys image (inl h) = inl h
one_of_front P (x ∷ xs) ys image (inr h) = inr (one_of_front P xs ys image h)

pub one_of_back : {S : Type 0} (P : S → Images) (xs ys : List S) (image : List ℕ) → OneOf P ys image → OneOf P (xs ++ ys) image
one_of_back P [] ys image h = h
one_of_back P (x ∷ xs) ys image h = inr (one_of_back P xs ys image h)
