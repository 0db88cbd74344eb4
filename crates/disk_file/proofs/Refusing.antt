-- Why nothing is opened or made, out of what the calls before it came to.
use Rattle.std.proofs.Common.{◌≡◌, ◌⊎◌, inl, inr, ℕ, Bool, true, List, [], ◌∷◌, ◌++◌, Option, None, Result, Ok, Err, IfErr, ap, ◌∙◌}
use Rattle.disk_file.specs.declared.device_file.OpenFault.{OpenFault}
use Rattle.disk_file.specs.Calls.{Call, opened, seen, locked, deed_call, length_call}
use Rattle.disk_file.specs.Devices.{Change}
use Rattle.disk_file.specs.Known.{Known, Standing}
use Rattle.disk_file.specs.Refusals.{IsRefused, IsUnmade, IsLonger, WasThere, HidLength, not_opened, longer}

-- a file was opened, looked at and locked, and then it didn't tell its length
pub hid_length : {F : Type 0} (past : F → List Call) (name : List ℕ) (writes is_file : Bool) (file seen_file locked_file last : F) → past file ≡ deed_call (opened name writes) ∷ []
    → past seen_file ≡ past file ++ deed_call (seen is_file) ∷ [] → past locked_file ≡ past seen_file ++ deed_call (locked true) ∷ []
    → past last ≡ past locked_file ++ length_call None ∷ [] → HidLength past name writes
hid_length past name writes is_file file seen_file locked_file last begun then held asked = (
  last,
  is_file,
  asked ∙ ap (λ (l : List Call). l ++ length_call None ∷ []) (held ∙ ap (λ (l : List Call). l ++ deed_call (locked true) ∷ [])
      (then ∙ ap (λ (l : List Call). l ++ deed_call (seen is_file) ∷ []) begun)),
)

-- something had the name, and can't be had
pub unmade_there : {D F T : Type 0} (known : D → Known) (becomes : D → Change → D → Type 0) (past : F → List Call) (stands : F → Option Standing) (old new : D) (name : List ℕ) (len : ℕ)
    (result : Result T OpenFault) → WasThere (known old) name → IfErr result (λ fault. IsRefused (known new) past name true fault ⊎ IsLonger (known new) name len fault)
    → IfErr result (λ fault. IsUnmade known becomes past stands old new name len fault)
unmade_there known becomes past stands old new name len (Ok disk) there why = tt
unmade_there known becomes past stands old new name len (Err fault) there (inl refused) = not_opened there refused
unmade_there known becomes past stands old new name len (Err fault) there (inr long) = longer there long
