use Rattle.sdd_interpreter.proofs.Words.{Some, map, ap, ◌∙◌, option_map, map-set, Sole, Share, owner_holding}
use Rattle.sdd_interpreter.proofs.owners.put_back.Goals as goal

pub returns-in-Sole-Some : goal.returns-in-Sole-Some
returns-in-Sole-Some c =
    rw (c.in-Some.is, c.in-Sole-Some.is, c.in-Sole-Some.field-0-is) (ap (map (option_map owner_holding)) c.put_back.ensures.back
    ∙ map-set (option_map owner_holding) c.args.owners.now.entries.items c.in-Some.name.0 (Some (Sole c.in-Sole-Some.owner)))

pub returns-in-Share-Some : goal.returns-in-Share-Some
returns-in-Share-Some c =
    rw (c.in-Some.is, c.in-Share-Some.is, c.in-Share-Some.field-0-is) (ap (map (option_map owner_holding)) c.put_back-in-Share-Some.ensures.back
    ∙ map-set (option_map owner_holding) c.args.owners.now.entries.items c.in-Some.name.0 (Some (Share c.in-Share-Some.owner)))
