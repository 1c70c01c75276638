use Rattle.std.proofs.lemmas.Bool.{and_parts, eqb-true, ltb-true}
use Rattle.sci_script.specs.declared.commands.Command.TheVariants.{Begin, Turn, Done, Rest, End, List as ListLine, Tag as ShowTag, Show}
use Rattle.sci_script.proofs.Runs.{stopped}
use Rattle.sci_script.proofs.running.perform.Goals as goal

pub begin-requires : goal.begin-requires
begin-requires g c = record { command = rw c.in-Begin.is at c.requires.command }

pub turn-requires : goal.turn-requires
turn-requires g c = record { empty = c.requires.empty; node = ltb-true _ _ (rw c.in-Turn.is at c.requires.command); few = c.requires.few; words = c.requires.words }

pub rest-requires : goal.rest-requires
rest-requires g c = eqb-true _ _ (rw c.in-Rest.is at c.requires.command)

pub end-requires : goal.end-requires
end-requires g c =
    let p = and_parts _ _ (rw c.in-End.is at c.requires.command) in
    record { empty = c.requires.empty; nodes = eqb-true _ _ p.0; lines = eqb-true _ _ p.1; few = c.requires.few; words = c.requires.words }

pub list-requires : goal.list-requires
list-requires g c = ltb-true _ _ (rw c.in-List.is at c.requires.command)

pub tag-requires : goal.tag-requires
tag-requires g c = let p = and_parts _ _ (rw c.in-Tag.is at c.requires.command) in record { line = ltb-true _ _ p.0; node = ltb-true _ _ p.1 }

pub show-requires : goal.show-requires
show-requires g c = rw c.in-Show.is at c.requires.command

pub returns-in-Begin-clause-ok : goal.returns-in-Begin-clause-ok
returns-in-Begin-clause-ok g c = rw (c.in-Begin.is, c.requires.empty) c.begin.ensures.ok

pub returns-in-Begin-clause-err : goal.returns-in-Begin-clause-err
returns-in-Begin-clause-err g c =
    stopped g.D.Desk.is_open g.D.Desk.does c.args.nodes c.args.desk.now c.begin.new.desk c.args.step (Begin c.in-Begin.node c.in-Begin.line c.in-Begin.request) c.begin.result c.in-Begin.is c.begin.ensures.err

pub returns-in-Begin-clause-size : goal.returns-in-Begin-clause-size
returns-in-Begin-clause-size g c = c.begin.ensures.size

pub returns-in-Turn-clause-ok : goal.returns-in-Turn-clause-ok
returns-in-Turn-clause-ok g c = rw c.in-Turn.is c.turn.ensures.ok

pub returns-in-Turn-clause-err : goal.returns-in-Turn-clause-err
returns-in-Turn-clause-err g c =
    stopped g.D.Desk.is_open g.D.Desk.does c.args.nodes c.args.desk.now c.turn.new.desk c.args.step (Turn c.in-Turn.node) c.turn.result c.in-Turn.is c.turn.ensures.err

pub returns-in-Turn-clause-size : goal.returns-in-Turn-clause-size
returns-in-Turn-clause-size g c = c.turn.ensures.size

pub returns-in-Done-clause-ok : goal.returns-in-Done-clause-ok
returns-in-Done-clause-ok g c = rw c.in-Done.is c.done.ensures.ok

pub returns-in-Done-clause-err : goal.returns-in-Done-clause-err
returns-in-Done-clause-err g c =
    stopped g.D.Desk.is_open g.D.Desk.does c.args.nodes c.args.desk.now c.done.new.desk c.args.step (Done c.in-Done.node) c.done.result c.in-Done.is c.done.ensures.err

pub returns-in-Done-clause-size : goal.returns-in-Done-clause-size
returns-in-Done-clause-size g c = c.done.ensures.size

pub returns-in-Rest-clause-ok : goal.returns-in-Rest-clause-ok
returns-in-Rest-clause-ok g c = rw (c.in-Rest.is, c.requires.empty) c.rest.ensures.ok

pub returns-in-Rest-clause-err : goal.returns-in-Rest-clause-err
returns-in-Rest-clause-err g c =
    stopped g.D.Desk.is_open g.D.Desk.does c.args.nodes c.args.desk.now c.rest.new.desk c.args.step (Rest c.in-Rest.lines) c.rest.result c.in-Rest.is c.rest.ensures.err

pub returns-in-Rest-clause-size : goal.returns-in-Rest-clause-size
returns-in-Rest-clause-size g c = c.rest.ensures.size

pub returns-in-End-clause-ok : goal.returns-in-End-clause-ok
returns-in-End-clause-ok g c = rw c.in-End.is c.end.ensures.ok

pub returns-in-End-clause-err : goal.returns-in-End-clause-err
returns-in-End-clause-err g c =
    stopped g.D.Desk.is_open g.D.Desk.does c.args.nodes c.args.desk.now c.end.new.desk c.args.step (End c.in-End.nodes c.in-End.lines) c.end.result c.in-End.is c.end.ensures.err

pub returns-in-End-clause-size : goal.returns-in-End-clause-size
returns-in-End-clause-size g c = c.end.ensures.size

pub returns-in-List-clause-ok : goal.returns-in-List-clause-ok
returns-in-List-clause-ok g c = rw c.in-List.is c.list.ensures.ok

pub returns-in-List-clause-err : goal.returns-in-List-clause-err
returns-in-List-clause-err g c =
    stopped g.D.Desk.is_open g.D.Desk.does c.args.nodes c.args.desk.now c.list.new.desk c.args.step (ListLine c.in-List.line) c.list.result c.in-List.is c.list.ensures.err

pub returns-in-List-clause-size : goal.returns-in-List-clause-size
returns-in-List-clause-size g c = c.list.ensures.size

pub returns-in-Tag-clause-ok : goal.returns-in-Tag-clause-ok
returns-in-Tag-clause-ok g c = rw c.in-Tag.is c.tag.ensures.ok

pub returns-in-Tag-clause-err : goal.returns-in-Tag-clause-err
returns-in-Tag-clause-err g c =
    stopped g.D.Desk.is_open g.D.Desk.does c.args.nodes c.args.desk.now c.tag.new.desk c.args.step (ShowTag c.in-Tag.line c.in-Tag.node) c.tag.result c.in-Tag.is c.tag.ensures.err

pub returns-in-Tag-clause-size : goal.returns-in-Tag-clause-size
returns-in-Tag-clause-size g c = c.tag.ensures.size

pub returns-in-Show-clause-ok : goal.returns-in-Show-clause-ok
returns-in-Show-clause-ok g c = rw c.in-Show.is c.show.ensures.ok

pub returns-in-Show-clause-err : goal.returns-in-Show-clause-err
returns-in-Show-clause-err g c =
    stopped g.D.Desk.is_open g.D.Desk.does c.args.nodes c.args.desk.now c.show.new.desk c.args.step (Show c.in-Show.ask) c.show.result c.in-Show.is c.show.ensures.err

pub returns-in-Show-clause-size : goal.returns-in-Show-clause-size
returns-in-Show-clause-size g c = c.show.ensures.size
