-- The keywords of scripts with assumptions of time.

-- what a statement begins with
pub data TimedKeyword : Type 0 where
  Order : TimedKeyword
  Ideal : TimedKeyword
  Start : TimedKeyword
  Change : TimedKeyword
