-- The acts of lists of lines.
use Rattle.std.proofs.Common.{◌≡◌, List, [], ◌∷◌, ◌++◌, suc, length, sym, ◌∙◌, ap, subst}
use Rattle.sn_geom.specs.declared.machine.Acts.{Acts}
use Rattle.sn_geom.specs.Block.{Block}
use Rattle.sn_geom.specs.Machine.{State, acts_of, state_after, Runs}
use Rattle.sn_geom.specs.MachineLaws.{LinesHaveOneMeaning, FaultyLinesDoNothing, LinesGoOn}

one_list : (state : State) (blocks : List Block) (some others : List Acts) → Runs state blocks some → Runs state blocks others → some ≡ others
one_list state [] some others p q = p ∙ sym q
one_list state (b ∷ bs) some others (clean, (later, is, runs)) (clean', (later', is', runs')) =
    is ∙ ap (λ acts. acts_of state b ∷ acts) (one_list (state_after state b) bs later later' runs runs') ∙ sym is'

as_many : (state : State) (blocks : List Block) (some : List Acts) → Runs state blocks some → length some ≡ length blocks
as_many state [] some p = ap length p
as_many state (b ∷ bs) some (clean, (later, is, runs)) =
    let more : length some ≡ suc (length later) = ap length is in
    let same : suc (length later) ≡ suc (length bs) = ap suc (as_many (state_after state b) bs later runs) in
    more ∙ same

pub lines_have_one_meaning : LinesHaveOneMeaning
lines_have_one_meaning state blocks some others = (one_list state blocks some others, as_many state blocks some)

pub faulty_lines_do_nothing : FaultyLinesDoNothing
faulty_lines_do_nothing state [] behind b fault acts faulty runs = let clean = runs.0 in cc
faulty_lines_do_nothing state (c ∷ before) behind b fault acts faulty (clean, (later, is, runs)) =
    faulty_lines_do_nothing (state_after state c) before behind b fault later faulty runs

pub lines_go_on : LinesGoOn
lines_go_on state [] back some others p q = subst (λ (acts : List Acts). Runs state back (acts ++ others)) (sym p) q
lines_go_on state (b ∷ front) back some others (clean, (later, is, runs)) q =
    (clean, (later ++ others, ap (λ acts. acts ++ others) is, lines_go_on (state_after state b) front back later others runs q))
