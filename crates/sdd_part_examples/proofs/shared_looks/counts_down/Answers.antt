use Rattle.std.proofs.Common.{refl}
use Rattle.sdd_shared_values.specs.SharedValues.{vacant, IsNoValueCode, IsValueCode}
use Rattle.sdd_shared_values.proofs.CarriedChanges.{put-whole}
use Rattle.sdd_part_examples.proofs.shared_looks.counts_down.Goals as goal

-- src/example.rt:145:5
pub put-requires-clause-whole : goal.put-requires-clause-whole
put-requires-clause-whole g c = let took = c.take-number.ensures.seat in let γ = c.args.values.now.gamma in let i = c.args.at in let n = c.args.count in
    put-whole γ i n vacant IsValueCode IsNoValueCode c.args.seat.now.me.1 c.take-number.new.seat.me.1 refl c.requires.whole (took.0, λ j. (took.1 j).me.1)

-- src/example.rt:131:1
pub returns : goal.returns
returns g c = let took = c.take-number.ensures.seat in let put = c.put.ensures.seat in let γ = c.args.values.now.gamma in let i = c.args.at in
    let n = c.args.count in let ys = c.take-number.new.seat.me.1 in
    put-whole γ i n _ IsNoValueCode IsValueCode ys c.put.new.seat.me.1 tt
    (put-whole γ i n vacant IsValueCode IsNoValueCode c.args.seat.now.me.1 ys refl c.requires.whole (took.0, λ j. (took.1 j).me.1)) (put.0, λ j. (put.1 j).me.1)
