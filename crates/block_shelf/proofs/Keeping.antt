-- What is kept of flushed buffers, behind changes of a shelf and of its state.
use Rattle.std.proofs.Common.{◌≡◌, ◌≢◌, ℕ, Bool, true, false, List, [], ◌∷◌, ◌++◌, refl, sym, ◌∙◌, ap, subst}
use Rattle.std.specs.Prelude.{Some, None}
use Rattle.std.specs.List.{AllByRecursion}
use Rattle.law_lists.proofs.Each.{all_map, all_joined}
use Rattle.rec_format.specs.declared.version.Digest.{Digest}
use Rattle.rec_format.specs.declared.version.Version.{Version}
use Rattle.rec_format.specs.Places.{same_digest}
use Rattle.rec_format.specs.Versions.{block_capacity}
use Rattle.rec_format.proofs.Laws.{same_digest_is}
use Rattle.model_device.specs.Book.{Live, live_of}
use Rattle.model_device.specs.Device.{State, entry}
use Rattle.block_format.specs.declared.geometry.Geometry.{Geometry}
use Rattle.write_buffer.specs.Buffers.{BufferState}
use Rattle.post_cache.specs.Bodies.{KeptBody, CacheState, kept_at, without_block, with_kept_body}
use Rattle.post_cache.proofs.Kept.{absent-without, kept_at-without_same, IsCache-without_block, IsCache-with_body}
use Rattle.post_cache.proofs.Laws.{all-without, all-with, absent-with}
use Rattle.block_shelf.specs.declared.place.ShelfLimits.{ShelfLimits}
use Rattle.block_shelf.specs.View.{IsCacheOf, IsKeptOf}
use Rattle.block_shelf.specs.Standing.{KeptHave}
use Rattle.block_shelf.specs.Changes.{without_kept, with_flushed}

-- ---- what every shelf keeps

module _ (g : Geometry) (limits : ShelfLimits) where
  -- a block gets a buffer, and what is kept of it is forgotten
  pub cache_begun : (blocks : List ℕ) (block : ℕ) (c : CacheState BufferState) → IsCacheOf g limits blocks c → IsCacheOf g limits (blocks ++ block ∷ []) (without_kept block c)
  cache_begun blocks block c is = record {
    list = IsCache-without_block block c is.list;
    limit = is.limit;
    each = all-without (IsKeptOf g) block c.kept is.each;
    apart = all_joined (λ n. kept_at n (without_block block c.kept) ≡ None) blocks (block ∷ [])
        (all_map (λ n. kept_at n c.kept ≡ None) (λ n. kept_at n (without_block block c.kept) ≡ None) blocks (λ n absent. absent-without n block c.kept absent) is.apart)
        (kept_at-without_same block c.kept, tt);
  }

  -- a buffer leaves, and is kept
  pub cache_flushed : (blocks rest : List ℕ) (b : BufferState) (c : CacheState BufferState) → b.capacity ≡ block_capacity g.block_size → AllByRecursion (λ n. n ≢ b.block) rest
      → AllByRecursion (λ n. kept_at n c.kept ≡ None) rest → IsCacheOf g limits blocks c → IsCacheOf g limits rest (with_flushed b c)
  cache_flushed blocks rest b c capacity others absent is = record {
    list = IsCache-with_body b.block b c is.list;
    limit = is.limit;
    each = all-with c.limit b.block b c.kept (IsKeptOf g) is.each (record { block = refl; capacity = capacity });
    apart = by rest others absent;
  }
    where
      by : (ns : List ℕ) → AllByRecursion (λ n. n ≢ b.block) ns → AllByRecursion (λ n. kept_at n c.kept ≡ None) ns → AllByRecursion (λ n. kept_at n (with_kept_body c.limit b.block b c.kept) ≡ None) ns
      by [] others absent = tt
      by (n ∷ ns) others absent = (absent-with c.limit b.block b c.kept n others.0 absent.0, by ns others.1 absent.1)

-- ---- the state

module _ (Has : BufferState → ℕ → Digest → Version → Type 0) where
  -- what is kept of a block is forgotten
  pub have_forgotten : (block : ℕ) (ks : List (KeptBody BufferState)) (s : State) → KeptHave Has ks s → KeptHave Has (without_block block ks) s
  have_forgotten block ks s have e l v is_live is_entry = all-without (λ k. k.block ≡ l.block → Has k.body l.unit e v) block ks (have e l v is_live is_entry)

  -- a buffer is kept that has the copies of its block
  pub have_flushed : (b : BufferState) (c : CacheState BufferState) (s : State)
      → ((e : Digest) (l : Live) (v : Version) → live_of e s.book.live ≡ Some l → entry s e ≡ Some v → b.block ≡ l.block → Has b l.unit e v)
      → KeptHave Has c.kept s → KeptHave Has (with_flushed b c).kept s
  have_flushed b c s this have e l v is_live is_entry = all-with c.limit b.block b c.kept (λ k. k.block ≡ l.block → Has k.body l.unit e v) (have e l v is_live is_entry) (this e l v is_live is_entry)

  -- live copies and entries are as before, or no longer there
  pub have_fewer : (ks : List (KeptBody BufferState)) (s t : State) → ((e : Digest) (l : Live) → live_of e t.book.live ≡ Some l → live_of e s.book.live ≡ Some l)
      → ((e : Digest) (l : Live) (v : Version) → live_of e t.book.live ≡ Some l → entry t e ≡ Some v → entry s e ≡ Some v) → KeptHave Has ks s → KeptHave Has ks t
  have_fewer ks s t lives entries have e l v is_live is_entry = have e l v (lives e l is_live) (entries e l v is_live is_entry)

  -- one digest gets a live copy in a block that isn't kept
  pub have_copied : (ks : List (KeptBody BufferState)) (s t : State) (digest : Digest) (new : Live) → live_of digest t.book.live ≡ Some new → AllByRecursion (λ k. k.block ≢ new.block) ks
      → ((e : Digest) → same_digest e digest ≡ false → live_of e t.book.live ≡ live_of e s.book.live) → ((e : Digest) → same_digest e digest ≡ false → entry t e ≡ entry s e)
      → KeptHave Has ks s → KeptHave Has ks t
  have_copied ks s t digest new is_new apart lives entries have e l v is_live is_entry = by (same_digest e digest) refl
    where
      some_same : (l m : Live) → Some l ≡ Some m → l ≡ m
      some_same l m eq = cc

      by : (x : Bool) → same_digest e digest ≡ x → AllByRecursion (λ k. k.block ≡ l.block → Has k.body l.unit e v) ks
      by true same =
          let here : new ≡ l = some_same new l (sym is_new ∙ subst (λ (d : Digest). live_of d t.book.live ≡ Some l) (same_digest_is e digest same) is_live) in
          all_map (λ k. k.block ≢ new.block) (λ k. k.block ≡ l.block → Has k.body l.unit e v) ks (λ k ne at. absurd (ne (at ∙ ap (λ (x : Live). x.block) (sym here)))) apart
      by false other = have e l v (sym (lives e other) ∙ is_live) (sym (entries e other) ∙ is_entry)
