use Rattle.std.proofs.Common.{◌≡◌, sym, subst, refl}
use Rattle.sdd_shared_values.specs.ValueFractions.{AllFreeFor}
use base.Stored.{Gv}
use Rattle.sdd_shared_values.specs.CarriedFractions.{contents}
use Rattle.sdd_shared_values.specs.SharedValues.{showing, IsNoValueCode, IsValueCode, HasWhole}
use Rattle.sdd_shared_values.proofs.CarriedChanges.{Carries, put-whole, put-free, whole-shows, whole-settled, same-value}
use Rattle.sdd_part_examples.proofs.shared_looks.takes_what_was_put.Goals as goal

-- src/example.rt:56:9
pub look-shown-requires-clause-fraction : goal.look-shown-requires-clause-fraction
look-shown-requires-clause-fraction g c = let put = c.put.ensures.seat in let γ = c.args.values.now.gamma in let i = c.args.at in let n = c.args.count in
    let ys = c.put.new.seat.me.1 in whole-shows γ i n c.args.section.now.lifetime (contents ys)
    (put-whole γ i n (showing g.row.T c.args.value) IsNoValueCode IsValueCode c.args.seat.now.me.1 ys tt c.requires.whole (put.0, λ j. (put.1 j).me.1))

-- src/example.rt:58:5
pub settle-requires-clause-lent : goal.settle-requires-clause-lent
settle-requires-clause-lent g c = let put = c.put.ensures.seat in let zs = c.look-shown.new.seat.me.1 in
    subst (λ t. AllFreeFor t (contents zs)) (sym c.end_section-ended.ensures.ended) (c.look-shown.ensures.lent.1
    (put-free c.args.section.now.lifetime c.args.count (showing g.row.T c.args.value) c.args.seat.now.me.1 c.put.new.seat.me.1 c.requires.free (
      put.0,
      λ j. (put.1 j).me.1,
    )))

-- src/example.rt:59:5
pub take-requires-clause-whole : goal.take-requires-clause-whole
take-requires-clause-whole g c = let put = c.put.ensures.seat in let γ = c.args.values.now.gamma in let i = c.args.at in let n = c.args.count in
    let ys = c.put.new.seat.me.1 in
    subst (λ (zs : Carries). HasWhole γ i n IsValueCode (contents zs)) (sym (λ j. (c.settle.ensures j).me.1))
    (whole-settled γ i n IsValueCode ys c.look-shown.new.seat.me.1 c.look-shown.ensures.lent.0
    (put-whole γ i n (showing g.row.T c.args.value) IsNoValueCode IsValueCode c.args.seat.now.me.1 ys tt c.requires.whole (put.0, λ j. (put.1 j).me.1)))

-- src/example.rt:38:1
pub returns : goal.returns
returns g c = let put = c.put.ensures.seat in let γ = c.args.values.now.gamma in let i = c.args.at in let n = c.args.count in
    let ys = c.put.new.seat.me.1 in let w = showing g.row.T c.args.value in let taken = c.take.ensures.value in
    record {
      value = same-value g.row.T γ i n taken.0 c.args.value c.take.result (contents c.settle.new.seat.me.1)
          (subst (λ (zs : Carries). HasWhole γ i n (λ (v : Gv). v ≡ w) (contents zs)) (sym (λ j. (c.settle.ensures j).me.1))
          (whole-settled γ i n (λ (v : Gv). v ≡ w) ys c.look-shown.new.seat.me.1 c.look-shown.ensures.lent.0
          (put-whole γ i n w IsNoValueCode (λ (v : Gv). v ≡ w) c.args.seat.now.me.1 ys refl c.requires.whole (put.0, λ j. (put.1 j).me.1))))
          taken.1;
    }
