pub mod Intern
