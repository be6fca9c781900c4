-- Our answer to a call, as a record tells it (document 02, request 11).
use Rattle.std.specs.Prelude.{Bool, cond, ◌&&◌, [], ◌++◌, take, eqb}
use Rattle.bindings.specs.Bindings.{same_words}
use Rattle.rules.specs.Entries.{Entries}
use Rattle.rules.specs.Calls.{Call}
use Rattle.rules.specs.Rules.{number, results, reply}
use Rattle.recording.specs.Recording.{Answer}
use Rattle.recording.specs.Statements.{value_count}

-- of a reply's numbers those of which a record tells; the bytes that are shown or written, none where the call is refused
unfoldable pub answer_to : Call → Entries → Answer
answer_to c e =
    record {
      number = number c e;
      values = take (value_count c) (reply c e).values;
      shown = cond (eqb (number c e) 0) ((results c e).part ++ (results c e).front) [];
    }

abbrev pub same_answer : Answer → Answer → Bool
same_answer a b = eqb a.number b.number && same_words a.values b.values && same_words a.shown b.shown
