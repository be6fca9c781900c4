-- The numbers of a call's form, as the table in the code has them.
use Rattle.recording.specs.Recording.{Form}
use Rattle.recording.specs.declared.forms.Form as coded

abbrev pub told : Form → coded.Form
told f = record { width = f.width; first = f.first; second = f.second; mark = f.mark; values = f.values }
