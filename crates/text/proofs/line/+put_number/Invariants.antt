use Rattle.text.proofs.line.+put_number.Given as goal

-- all but the last digit are those of a tenth of it
abbrev pub decreases-put_number : goal.decreases-put_number
decreases-put_number l = l.x
