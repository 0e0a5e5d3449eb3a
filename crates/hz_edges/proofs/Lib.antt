-- Words that are inductive and a witness are right edges
pub mod RightEdges
-- There are edges of every change
pub mod EdgesThere
