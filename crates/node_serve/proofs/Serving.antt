-- One link more.
use Rattle.std.proofs.Common.{refl, subst, List, [], ◌∷◌, ◌++◌}
use Rattle.node_session.specs.declared.ended.Ended.{Ended}
use Rattle.node_session.specs.Turns.{Times}
use Rattle.node_serve.specs.Serving.{ServesLinks}

module _ {S : Type 0} (serves : S → Times → Ended → S → Times → Type 0) where
  -- links and one after them
  pub links_and_one : (hows : List Ended) (old : S) (times : Times) (mid : S) (then : Times) (how : Ended) (new : S) (later : Times)
      → ServesLinks serves hows old times mid then → serves mid then how new later → ServesLinks serves (hows ++ how ∷ []) old times new later
  links_and_one [] old times mid then how new later (m, t) link =
      (new, later, subst (λ c. serves c times how new later) m (subst (λ c. serves mid c how new later) t link), (refl, refl))
  links_and_one (h ∷ hows) old times mid then how new later (next, at, first, rest) link = (next, at, first, links_and_one hows next at mid then how new later rest link)
