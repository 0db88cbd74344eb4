-- The disks of the first names, and the next one.
use Rattle.std.proofs.Common.{◌≡◌, ℕ, ◌+◌, ◌<◌, List, [], ◌∷◌, ◌++◌, length, map, take, slice_get, Some, None, sym, ◌∙◌, subst}
use Rattle.std.proofs.lemmas.List.{take_more, map-append, length-map, get_or-map}
use Rattle.std.proofs.lemmas.Option.{slice_get-get_or}
use Rattle.disk_file.specs.View.{FileState}
use Rattle.disk_file.specs.Devices.{name_of}

pub named_more : (names : List (List ℕ)) (at : ℕ) (disks : List FileState) (disk : FileState) → map (λ (d : FileState). name_of d.past) disks ≡ take at (map Some names)
    → name_of disk.past ≡ slice_get names at → at < length names → map (λ (d : FileState). name_of d.past) (disks ++ disk ∷ []) ≡ take (at + 1) (map Some names)
named_more names at disks disk so_far is below =
    map-append (λ (d : FileState). name_of d.past) disks (disk ∷ [])
    ∙ (λ i. so_far i ++ (is ∙ slice_get-get_or names at [] below ∙ sym (get_or-map Some names at [] None below)) i ∷ [])
    ∙ sym (take_more (map Some names) at None (subst (λ (n : ℕ). at < n) (sym (length-map names Some)) below))
