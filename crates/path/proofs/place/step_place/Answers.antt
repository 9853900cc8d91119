use Rattle.std.proofs.Common.{◌+◌, drop, sym, ap, ◌∙◌, arith}
use Rattle.path.specs.Walking.{walk}
use Rattle.path.proofs.Unfinished.{walk_ends, walk_goes_on}
use Rattle.path.proofs.WalkedTerms.{walk_term}
use Rattle.path.proofs.place.step_place.Goals as goal

pub loop-next-preserved : goal.loop-next-preserved
loop-next-preserved c =
    let l = c.loop-next in
    let ws = c.args.words.now in
    let q = c.in-Some.next in
    let b = c.in-Some.ensures.bounds in
    record {
      inside = omega arith;
      ahead = omega arith;
      same =
          ap (λ n. walk (q + 1) q n 0 (drop (q + 1) ws)) c.evaluated-parts.ensures
          ∙ sym (walk_goes_on ws l.from l.parts q (sym c.in-Some.ensures.value) _ (sym c.if-is_of.false ∙ c.is_of.ensures) l.last)
          ∙ l.invariant.same;
    }

pub returns-then-is_of : goal.returns-then-is_of
returns-then-is_of c =
    let l = c.loop-next in
    let ws = c.args.words.now in
    let q = c.in-Some.next in
    let e =
    sym (walk_goes_on ws l.from l.parts q (sym c.in-Some.ensures.value) _ (sym c.if-is_of.true ∙ c.is_of.ensures) l.last)
    ∙ l.invariant.same in
    record { walks = e; value = λ t s. e ∙ walk_term t ws c.args.at s; bounds = l.invariant.inside }

pub returns-in_default : goal.returns-in_default
returns-in_default c =
    let l = c.loop-next in
    let ws = c.args.words.now in
    let e = sym (walk_ends ws l.from l.parts l.last (sym c.in_default.ensures.value)) ∙ l.invariant.same in
    record { walks = e; value = λ t s. e ∙ walk_term t ws c.args.at s; bounds = l.invariant.inside }
