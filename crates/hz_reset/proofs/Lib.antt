-- Values after one input after the other exist, are one list, and cover the outcomes
pub mod Covers
-- From every state, under every input, there is an outcome state
pub mod Outcomes
-- From an unknown start Algorithm A makes every variable X, whatever was held
pub mod Forgotten
-- A list that has the values of a function, place by place
pub mod Places
