-- How far the devices of a node were brought under their tables.
use Rattle.std.proofs.Common.{◌≡◌, ℕ, ◌+◌, ◌≤◌, List, [], ◌∷◌, ◌++◌, length, refl, sym, ap, suc, subst, ◌∙◌, arith, append_assoc, length-append}
use Rattle.std.proofs.lemmas.List.{append-nil}
use Rattle.disk_model.specs.Disk.{DiskView, IsDisk}
use Rattle.model_device.specs.Device.{State}
use Rattle.shard_core.specs.Stands.{Agrees}
use Rattle.shard_core.specs.View.{ShardView}
use Rattle.turn_table.specs.declared.noted.Noted.{Noted}
use Rattle.turn_table.specs.Rule.{all_numbers, newcomer}
use Rattle.turn_table.specs.Passes.{view, own_count, joined_count}
use Rattle.live_node.specs.Opening.{opened}
use Rattle.live_node.specs.Lives.{Live, LivePass, opening_at, IsPassAt}
use Rattle.live_store.specs.Pairs.{EachPair}
use Rattle.live_store.specs.Known.{known_each}
use Rattle.live_store.proofs.Pairs.{pairs_length}
use Rattle.live_serve.specs.Devices.{Named, named_each, StandsAsNoted, IsUnderTable, IsFirstPass, AreOpened, StopsAt, ComesOutAt, ComesBack}
use Rattle.live_serve.proofs.Pairing.{pair_push, pair_append, first_pair}
use Rattle.live_serve.proofs.Coming.{as_it_is, none_made}

-- Some are under their tables, and the others are left.
pub record OpenedSoFar {D : Type 0} (all : List (Named D)) (lives : List (Live D)) (passes : List (LivePass D)) (shards : List (ShardView D)) (notes : List (Noted State)) : Type 0 where
  pub done : List (Named D)
  pub parts : all ≡ done ++ named_each shards notes
  pub opened : AreOpened done lives passes
  pub rest : EachPair StandsAsNoted shards notes

module _ {D : Type 0} where
  pub opened_none : (shards : List (ShardView D)) (notes : List (Noted State)) (lives : List (Live D)) (passes : List (LivePass D)) → EachPair StandsAsNoted shards notes → lives ≡ [] → passes ≡ []
      → OpenedSoFar (named_each shards notes) lives passes shards notes
  opened_none shards notes lives passes stands no_lives no_passes = record {
    done = [];
    parts = refl;
    opened = record {
      under = subst (EachPair IsUnderTable []) (sym no_lives) tt;
      first = subst (EachPair IsFirstPass []) (sym no_passes) tt;
      seated = subst (λ (l : List (Live D)). EachPair IsPassAt l passes) (sym no_lives) (subst (EachPair IsPassAt []) (sym no_passes) tt);
    };
    rest = stands;
  }

  module _ (all : List (Named D)) (lives : List (Live D)) (passes : List (LivePass D)) (shards shards' : List (ShardView D)) (notes notes' : List (Noted State)) (shard : ShardView D) (note : Noted State)
      (so_far : OpenedSoFar all lives passes shards notes) (is_shards : shards ≡ shard ∷ shards') (is_notes : notes ≡ note ∷ notes') where
    abbrev here : Named D
    here = record { shard = shard; state = note.value }

    next_is : named_each shards notes ≡ here ∷ named_each shards' notes'
    next_is = λ i. named_each (is_shards i) (is_notes i)

    pub stands_next : Agrees shard note.value
    stands_next = (first_pair StandsAsNoted shards shards' notes notes' shard note so_far.rest is_shards is_notes).0

    -- one more
    pub opened_more : (live : Live D) (pass : LivePass D) (lives' : List (Live D)) (passes' : List (LivePass D)) → opening_at live ≡ opened shard note.value
        → IsPassAt live pass × (view pass ≡ newcomer (opened shard note.value)) → (own_count pass ≡ all_numbers) × (joined_count pass ≡ 0)
        → lives' ≡ lives ++ live ∷ [] → passes' ≡ passes ++ pass ∷ [] → OpenedSoFar all lives' passes' shards' notes'
    opened_more live pass lives' passes' opening at numbers is_lives is_passes = record {
      done = so_far.done ++ here ∷ [];
      parts = so_far.parts ∙ (ap (λ (l : List (Named D)). so_far.done ++ l) next_is ∙ sym (append_assoc so_far.done (here ∷ []) (named_each shards' notes')));
      opened = record {
        under = subst (EachPair IsUnderTable (so_far.done ++ here ∷ [])) (sym is_lives) (pair_push IsUnderTable so_far.done lives here live so_far.opened.under opening);
        first = subst (EachPair IsFirstPass (so_far.done ++ here ∷ [])) (sym is_passes)
            (pair_push IsFirstPass so_far.done passes here pass so_far.opened.first (record { knows = at.1; numbers = numbers }));
        seated = subst (λ (l : List (Live D)). EachPair IsPassAt l passes') (sym is_lives)
            (subst (EachPair IsPassAt (lives ++ live ∷ [])) (sym is_passes) (pair_push IsPassAt lives passes live pass so_far.opened.seated at.0));
      };
      rest = (first_pair StandsAsNoted shards shards' notes notes' shard note so_far.rest is_shards is_notes).1;
    }

    -- it stops there
    pub opened_stop : StopsAt all shard shards' notes' lives passes
    opened_stop = record {
      done = so_far.done;
      state = note.value;
      parts = so_far.parts ∙ ap (λ (l : List (Named D)). so_far.done ++ l) next_is;
      opened = so_far.opened;
      agrees = stands_next;
      rest = (first_pair StandsAsNoted shards shards' notes notes' shard note so_far.rest is_shards is_notes).1;
    }

  pub opened_all : (all : List (Named D)) (lives : List (Live D)) (passes : List (LivePass D)) (shards : List (ShardView D)) (notes : List (Noted State)) → OpenedSoFar all lives passes shards notes
      → shards ≡ [] → AreOpened all lives passes
  opened_all all lives passes shards notes so_far none =
      subst (λ (l : List (Named D)). AreOpened l lives passes)
      (sym (so_far.parts ∙ (ap (λ (l : List (ShardView D)). so_far.done ++ named_each l notes) none ∙ append-nil so_far.done))) so_far.opened

  -- ---- where there was no memory

  pub named_length : (shards : List (ShardView D)) (notes : List (Noted State)) → EachPair StandsAsNoted shards notes → length (named_each shards notes) ≡ length shards
  named_length [] [] stands = refl
  named_length [] (note ∷ notes) stands = refl
  named_length (shard ∷ shards) [] stands = absurd stands
  named_length (shard ∷ shards) (note ∷ notes) stands = ap suc (named_length shards notes stands.1)

  -- as many as there were devices
  pub opened_count : (shards : List (ShardView D)) (notes : List (Noted State)) (lives : List (Live D)) (passes : List (LivePass D)) → EachPair StandsAsNoted shards notes
      → AreOpened (named_each shards notes) lives passes → length lives ≡ length shards
  opened_count shards notes lives passes stands opened = pairs_length IsUnderTable (named_each shards notes) lives opened.under ∙ named_length shards notes stands

  -- none is lost
  pub all_counted : (first : List (ShardView D)) (all_notes : List (Noted State)) (shard : ShardView D) (shards : List (ShardView D)) (notes : List (Noted State)) (lives : List (Live D))
      (passes : List (LivePass D)) → EachPair StandsAsNoted first all_notes → StopsAt (named_each first all_notes) shard shards notes lives passes
      → length lives + length shards + 1 ≡ length first
  all_counted first all_notes shard shards notes lives passes stands stop =
      let here : Named D = record { shard = shard; state = stop.state } in
      let all = named_length first all_notes stands in
      let rest = named_length shards notes stop.rest in
      let parts = ap length stop.parts in
      let both = length-append stop.done (here ∷ named_each shards notes) in
      let under = pairs_length IsUnderTable stop.done lives stop.opened.under in
      omega arith

  module _ (view' : D → DiskView) (is_disk : (disk : D) → IsDisk (view' disk)) where
    pub as_they_were : (shards : List (ShardView D)) (notes : List (Noted State)) → EachPair StandsAsNoted shards notes → EachPair (ComesBack view') (named_each shards notes) shards
    as_they_were [] [] stands = tt
    as_they_were [] (note ∷ notes) stands = tt
    as_they_were (shard ∷ shards) [] stands = absurd stands
    as_they_were (shard ∷ shards) (note ∷ notes) stands = (as_it_is view' shard note.value (is_disk shard.shelf.disk) stands.0, as_they_were shards notes stands.1)

    pub all_come_back : (all : List (Named D)) (shard : ShardView D) (shards : List (ShardView D)) (notes : List (Noted State)) (lives : List (Live D)) (passes : List (LivePass D))
        (outs back : List (ShardView D)) → StopsAt all shard shards notes lives passes → EachPair (ComesOutAt view') (known_each lives passes) outs → back ≡ outs ++ shard ∷ shards
        → EachPair (ComesBack view') all back
    all_come_back all shard shards notes lives passes outs back stop out is_back =
        let here : Named D = record { shard = shard; state = stop.state } in
        let front : EachPair (ComesBack view') stop.done outs = none_made view' stop.done lives passes outs stop.opened.under stop.opened.first out in
        let one : ComesBack view' here shard = as_it_is view' shard stop.state (is_disk shard.shelf.disk) stop.agrees in
        subst (λ (l : List (Named D)). EachPair (ComesBack view') l back) (sym stop.parts)
        (subst (EachPair (ComesBack view') (stop.done ++ here ∷ named_each shards notes)) (sym is_back)
        (pair_append (ComesBack view') stop.done outs (here ∷ named_each shards notes) (shard ∷ shards) front (one, as_they_were shards notes stop.rest)))

  -- those taken out, the one at which it stopped, and the rest
  pub back_is : (first took outs pushed rest all : List (ShardView D)) (shard : ShardView D) → first ≡ [] → took ≡ first ++ outs → pushed ≡ took ++ shard ∷ [] → all ≡ pushed ++ rest
      → all ≡ outs ++ shard ∷ rest
  back_is first took outs pushed rest all shard none is_took is_pushed is_all =
      is_all
      ∙ (ap (λ (l : List (ShardView D)). l ++ rest) (is_pushed ∙ ap (λ (l : List (ShardView D)). l ++ shard ∷ []) (is_took ∙ ap (λ (l : List (ShardView D)). l ++ outs) none))
      ∙ append_assoc outs (shard ∷ []) rest)

-- ---- room, by the lengths of lists and of what holds them

pub all_fit : (have lives shards len devices room : ℕ) → have ≡ lives → lives ≡ shards → len ≡ shards → devices ≡ len → devices ≤ room → have ≤ room
all_fit have lives shards len devices room have_is same len_is devices_are fits = omega arith

pub back_fits : (have lives left rest shards len devices room : ℕ) → have ≡ lives → left ≡ rest → lives + rest + 1 ≡ shards → len ≡ shards → devices ≡ len → devices ≤ room → have + left + 1 ≤ room
back_fits have lives left rest shards len devices room have_is left_is same len_is devices_are fits = omega arith
