-- `recording::forms::of`: the table has the form's numbers at each code.
use Rattle.recording.specs.Recording.{forms}
use Rattle.recording.proofs.Tables.{form-at}
use Rattle.recording.proofs.forms.of.Goals as goal

pub returns-then-code-lt20 : goal.returns-then-code-lt20
unfolding forms
returns-then-code-lt20 c = form-at _ _ c.if-code-lt20.true
