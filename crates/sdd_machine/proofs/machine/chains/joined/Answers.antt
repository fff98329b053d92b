use Rattle.std.proofs.Common.{ℕ, ◌+◌, ◌-◌, ◌<◌, ◌++◌, List, length, sym, ap, subst, ◌∙◌, get_or, arith, ⊎_elim}
use Rattle.std.proofs.lemmas.Bool.{cases_eq}
use Rattle.std.proofs.lemmas.List.{length-set}
use Rattle.sdd_machine.specs.Chains.{items_of, occ}
use Rattle.sdd_machine.proofs.Walks.{length-walk, occurs_at, lengths_fit, joined_walk, joined_last, occ-append}
use Rattle.sdd_machine.proofs.machine.chains.joined.Goals as goal

pub bounds-links-first : goal.bounds-links-first
bounds-links-first c =
    let links = c.args.links.now in let a = c.args.first in
    let some : 0 < a.len = omega arith in
    c.requires.one.inside a.last (occurs_at (items_of links a) (a.len - 1) a.last (let z =
    length-walk links a.len a.first in omega (arith, z)) (c.requires.one.last some))

pub overflow_add-result : goal.overflow_add-result
overflow_add-result c =
    let fit = lengths_fit c.args.links.now c.args.first c.args.second c.requires.one c.requires.two c.requires.once in
    let small = c.requires.small in omega (arith, fit, small)

pub returns-clause-items : goal.returns-clause-items
returns-clause-items c =
    let some : 0 < c.args.first.len = omega arith in
    joined_walk c.args.links.now c.args.first c.args.second some c.requires.one c.requires.once

pub returns-clause-chain : goal.returns-clause-chain
returns-clause-chain c =
    let links = c.args.links.now in let a = c.args.first in let b = c.args.second in
    let some : 0 < a.len = omega arith in let more : 0 < b.len = omega arith in
    let w = joined_walk links a b some c.requires.one c.requires.once in
    let size = length-walk links a.len a.first in
    record {
      last = λ _. ap (λ (ys : List ℕ). get_or ys (a.len + b.len - 1) 0) w
          ∙ (ap (λ (k : ℕ). get_or (items_of links a ++ items_of links b) (k + b.len - 1) 0) (sym size)
          ∙ joined_last links (items_of links a) b more c.requires.two);
      inside = λ i o.
          let wide = length-set links a.last b.first in
          let o' : 0 < occ i (items_of links a ++ items_of links b) = subst (λ (ys : List ℕ). 0 < occ i ys) w o in
          let sum = occ-append i (items_of links a) (items_of links b) in
          let lt : i < length links =
          ⊎_elim (λ none. c.requires.two.inside i (omega (arith, sum, o', none)))
          (λ far. c.requires.one.inside i (let z : 0 < occ i (items_of links a) = omega arith in z)) (cases_eq (occ i (items_of links a)) 0) in
          omega (arith, lt, wide);
    }
