use contract.BorrowLft.{⊑_meet, ⊑_static}
use Rattle.live_node.proofs.open.made.Goals as goal

pub new-requires : goal.new-requires
new-requires g c κs within =
    let one = ⊑_meet _ _ _ within.0 (⊑_static _) in
    let two = ⊑_meet _ _ _ within.1.0 (⊑_static _) in
    let last = ⊑_meet _ _ _ within.1.1 (⊑_static _) in (
      ⊑_meet _ _ _ one (⊑_meet _ _ _ (⊑_meet _ _ _ one (⊑_static _)) (⊑_static _)),
      (
        ⊑_meet _ _ _ two (⊑_meet _ _ _ (⊑_meet _ _ _ (⊑_meet _ _ _ (⊑_meet _ _ _ two two) (⊑_static _)) (⊑_static _)) (⊑_static _)),
        (
          ⊑_static _,
          (⊑_static _, (⊑_meet _ _ _ last (⊑_meet _ _ _ (⊑_meet _ _ _ last last) (⊑_static _)), (c.requires.1.0, (c.requires.1.1.1.1.0, c.requires.1.1.1.1.1)))),
        ),
      ),
    )
