use Rattle.std.proofs.Common.{ap, ◌∙◌, rules}
use Rattle.sdd_rights.specs.Right.{raw_number_of}
use Rattle.sdd_shared_values.specs.SharedValues.{showing}
use Rattle.sdd_domain_steps.specs.Local.{LocalModel}
use Rattle.sdd_domain_core.specs.Space.{caller_of}
use Rattle.sdd_domain.proofs.CollectorGiven.{answers, given_exact, given_keeps, given_others, given_own, given_caller, sound_after}
use Rattle.sdd_domain.proofs.space.collectors.LocalCollectors.close_collector.Goals as goal

pub invariant_of-self : goal.invariant_of-self
invariant_of-self g c = let v : LocalModel g.row.T.Denot g.row.J.Denot = c.self.inside.giver in let e = c.close_collector.ensures in
    let q : LocalModel g.row.T.Denot g.row.J.Denot = c.close_collector.new.self in let cell = raw_number_of c.args.collector in let holds = g.T.Item.holds in
    sound_after holds v q cell e.rest c.args.collector c.close_collector.result
    (answers holds v q cell c.args.collector c.close_collector.result e.own e.shut e.back e.exact) c.self.invariant e.settled

pub returns : goal.returns
returns g c =
    let v : LocalModel g.row.T.Denot g.row.J.Denot = c.self.inside.giver in let e = c.close_collector.ensures in
    let q : LocalModel g.row.T.Denot g.row.J.Denot = c.close_collector.new.self in let cell = raw_number_of c.args.collector in let holds = g.T.Item.holds in
    record {
      caller = given_caller g.T.Item.holds v c.close_collector.new.self (raw_number_of c.args.collector) c.close_collector.ensures.rest
          ∙ ap caller_of c.self.view_is;
      own = given_own holds v q cell e.rest c.args.collector c.close_collector.result
          (answers holds v q cell c.args.collector c.close_collector.result e.own e.shut e.back e.exact) c.self.invariant e.settled c.args.self.now
          c.self.view_is;
      known = search rules;
      shut = search rules;
      back = search rules;
      exact = given_exact holds v q cell e.rest c.args.collector c.close_collector.result
          (answers holds v q cell c.args.collector c.close_collector.result e.own e.shut e.back e.exact) c.self.invariant e.settled c.args.self.now
          c.self.view_is;
      others = given_others holds v q cell e.rest c.args.collector c.close_collector.result
          (answers holds v q cell c.args.collector c.close_collector.result e.own e.shut e.back e.exact) c.self.invariant e.settled c.args.self.now c.self.view_is
          (showing g.row.T);
      keeps = given_keeps holds v q cell e.rest c.args.collector c.close_collector.result
          (answers holds v q cell c.args.collector c.close_collector.result e.own e.shut e.back e.exact) c.self.invariant e.settled c.args.self.now c.self.view_is
          (showing g.row.T);
    }
