-- `recording::recording_answer`: the rows of `recording_refusals`.
use Rattle.recording.proofs.Walking.{no-count, short-walk, unfit-walk, left-walk, many-walk, done-walk}
use Rattle.recording.proofs.recording_answer.Goals as goal

pub returns-then-s-lt8 : goal.returns-then-s-lt8
returns-then-s-lt8 c = search no-count

pub returns-in_default : goal.returns-in_default
returns-in_default c = short-walk _ _ c.if-s-lt8.false c.read_u64-n.ensures c.in_default.ensures

pub returns-then-not-walked : goal.returns-then-not-walked
returns-then-not-walked c = unfit-walk _ _ c.if-s-lt8.false c.read_u64-n.ensures _ c.in-Some.ensures c.if-not-walked.true

pub returns-then-walked-s : goal.returns-then-walked-s
returns-then-walked-s c = left-walk _ _ c.if-s-lt8.false c.read_u64-n.ensures _ c.in-Some.ensures c.if-walked-s.true

pub returns-then-n-gt-MOST_RECORDS : goal.returns-then-n-gt-MOST_RECORDS
returns-then-n-gt-MOST_RECORDS c =
    many-walk _ _ c.if-s-lt8.false c.read_u64-n.ensures _ c.in-Some.ensures c.if-not-walked.false c.if-walked-s.false c.if-n-gt-MOST_RECORDS.true

pub returns : goal.returns
returns c = done-walk _ _ c.if-s-lt8.false c.read_u64-n.ensures _ c.in-Some.ensures c.if-not-walked.false c.if-walked-s.false c.if-n-gt-MOST_RECORDS.false
